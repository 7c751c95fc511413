-- What the test exports give, in numbers.
pub mod Exports
