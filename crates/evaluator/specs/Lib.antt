-- What the code of evaluation is handed, and what it answers.
pub mod Kept
pub mod Slices
pub mod Answers
pub mod AfterReading
pub mod Bound
pub mod Prepared
pub mod Outside
