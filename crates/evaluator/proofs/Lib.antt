-- A law for each way through evaluation.
pub mod Accepted
pub mod BoundLaws
pub mod Due
pub mod KindsNoted
pub mod Outcomes
pub mod OutsideLaws
pub mod Parts
pub mod PreparedLaws
pub mod Ready
pub mod RunLaws
pub mod Slots
pub mod Walks
