-- A table of bindings sees what the meaning has around a condition.
pub mod Fields
pub mod Rows
pub mod Opened
pub mod Sight
pub mod Tables
pub mod Starts
pub mod Trees
pub mod Lent
pub mod Conditions
