-- Laws that several proofs cite.
pub mod PartLaws
pub mod OrderLaws
pub mod MatchLaws
pub mod SearchLaws
