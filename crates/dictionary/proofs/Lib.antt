-- Laws that belong to no one function.
pub mod Places
pub mod Tests
pub mod Bytes
pub mod Checked
pub mod Loop
pub mod FieldRuns
pub mod Relations
pub mod Searches
pub mod Bounds
pub mod Fields
pub mod FieldSearches
pub mod FieldFormats
