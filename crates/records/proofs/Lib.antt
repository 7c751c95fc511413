-- Laws that belong to no one function.
pub mod Offsets
pub mod Records
pub mod RunLaws
pub mod Locations
