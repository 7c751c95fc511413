-- Laws that belong to no one function.
pub mod Parts
pub mod Heads
pub mod Ready
pub mod StatementLaws
pub mod Branches
pub mod Matches
pub mod Headings
pub mod Fors
pub mod Selects
pub mod SelectSteps
pub mod Whole
pub mod Replies
