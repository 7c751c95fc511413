-- The house dictionary.
pub mod Format
pub mod Dictionary
pub mod Naming
pub mod Internal
