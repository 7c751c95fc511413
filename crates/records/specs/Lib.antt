-- The records of a relation.
pub mod Record
pub mod Runs
pub mod Internal
