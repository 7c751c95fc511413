-- The kinds of the numbers of statistics.
pub mod Spans
pub mod KindAt
pub mod Scoped
pub mod Promises
