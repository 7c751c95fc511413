-- Scaled numbers.
pub mod Number
pub mod Comparing
pub mod Internal
