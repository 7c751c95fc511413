-- Laws that the proofs of the code cite.
pub mod PastEnd
pub mod TextLaws
pub mod FieldLaws
pub mod LiteralLaws
pub mod NotedLaws
pub mod ReferenceLaws
pub mod SingleLaws
