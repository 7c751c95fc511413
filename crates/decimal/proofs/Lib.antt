-- Laws that belong to no one function.
pub mod Table
pub mod Tens
pub mod Bits
pub mod Fitted
pub mod Signed
pub mod Scales
pub mod Quotient
pub mod Raised
pub mod Ordered
pub mod Parts
pub mod Working
pub mod Worked
pub mod PlainSums
