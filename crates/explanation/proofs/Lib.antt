-- The tests that are listed are a true reason; a walk over a condition's bytes gives them; how many they are; refusals are evaluation's.
pub mod Sizes
pub mod Names
pub mod Tests
pub mod Reason
pub mod Few
pub mod Link
pub mod Asked
pub mod Refused
pub mod Tables
pub mod RowLaws
pub mod NotingLaws
pub mod Questions
