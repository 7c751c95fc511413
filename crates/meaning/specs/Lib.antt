-- The meaning of a condition, and the answer of evaluation.
pub mod Decoding
pub mod House
pub mod Data
pub mod Inputs
pub mod Runs
pub mod Meaning
pub mod Evaluation
pub mod Evaluated
pub mod Demand
pub mod TakenOut
pub mod ValueEvaluated
