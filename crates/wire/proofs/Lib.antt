-- Laws that belong to no one function.
pub mod Compared
pub mod Past
pub mod Places
pub mod SignedByte
