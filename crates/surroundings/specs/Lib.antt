-- From the reader's tables to what a condition needs.
pub mod Parameters
pub mod Slots
pub mod Around
pub mod Bindings
pub mod Tables
