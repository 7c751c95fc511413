-- Laws that belong to no one function.
pub mod Runs
pub mod Held
pub mod Scopes
pub mod Rests
pub mod Scales
