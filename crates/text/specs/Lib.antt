-- Texts: the definitions, and what the code's private functions promise.
pub mod Value
pub mod Tests
pub mod Internal
