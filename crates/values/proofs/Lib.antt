-- Laws that the proofs cite.
pub mod Stops
pub mod NumberLaws
pub mod StatisticLaws
pub mod SpanLaws
