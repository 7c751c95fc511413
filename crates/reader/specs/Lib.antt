pub mod Given
pub mod Lent
pub mod Readers
pub mod Request
