-- The classes as the code has them.
pub mod Classes
