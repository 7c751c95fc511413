-- Theorems about the meaning's definitions.
pub mod House
pub mod Skipped
pub mod TakenOut
pub mod Unread
