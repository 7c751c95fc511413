-- The walk over the bytes of a condition, what it has to see, and the contexts that a request declares.
pub mod Walk
pub mod Declared
pub mod Sees
