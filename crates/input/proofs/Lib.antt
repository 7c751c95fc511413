-- Laws that belong to no one function.
pub mod Inside
pub mod Runs
pub mod Copies
pub mod EntriesInside
pub mod Joining
