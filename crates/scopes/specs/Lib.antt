pub mod Internal
pub mod Scopes
