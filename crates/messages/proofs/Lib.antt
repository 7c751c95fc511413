-- Laws that belong to no one function.
pub mod Found
pub mod Tables
pub mod Parameters
pub mod Held
pub mod Descriptors
pub mod Readings
