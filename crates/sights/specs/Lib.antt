-- What a table of bindings has to hold for a condition or a from-value.
pub mod Sites
pub mod Seen
