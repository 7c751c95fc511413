-- From the bytes of a condition or a from-value to the rows of its any, unique and statistic codes, and their runs.
pub mod Forms
pub mod Passes
pub mod Steps
pub mod Found
pub mod Filled
