-- Document 01's examples, those of any and unique, of statistics and of explanations, and answers that compute.
pub mod Answers
pub mod Examples
pub mod AnyUnique
pub mod Statistics
pub mod Explanations
