pub mod Internal
pub mod Entries
pub mod Declaring
