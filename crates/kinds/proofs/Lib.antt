-- Laws of the kinds of values on their bytes.
pub mod Finds
pub mod Reaches
pub mod Inner
pub mod Trees
pub mod KindLaws
pub mod Returns
pub mod Walks
pub mod Noting
pub mod Columns
pub mod Ranges
pub mod Scales
pub mod Starts
pub mod Contexts
pub mod Rowed
pub mod SiteKinds
pub mod NotedTables
