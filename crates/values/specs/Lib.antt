-- What the code's values stand for, and what the functions promise of them.
pub mod Values
pub mod Pairs
pub mod Numbers
pub mod Outcomes
pub mod Promises
pub mod Spans
pub mod Statistics
