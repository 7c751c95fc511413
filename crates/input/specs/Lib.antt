pub mod Input
pub mod Evaluation
