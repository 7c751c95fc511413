-- That the scan of the bytes of a condition or a from-value writes the rows of its any, unique and statistic codes; and the rows with their
-- runs.
pub mod PassLaws
pub mod StepLaws
pub mod Stores
pub mod Leads
pub mod Writes
pub mod ScanLaws
pub mod RowLaws
pub mod Room
pub mod Conditions
pub mod Checks
pub mod FilledLaws
