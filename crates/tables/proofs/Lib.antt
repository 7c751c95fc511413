pub mod Stores
pub mod Laid
pub mod Chains
pub mod Codes
pub mod Rows
pub mod Closed
