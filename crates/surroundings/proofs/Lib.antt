-- Laws of the loops of the code; and that what the code finds in the reader's tables is what the meaning fetches.
pub mod ParameterLoops
pub mod ContextLoops
pub mod Cells
pub mod Ids
pub mod Noted
pub mod Scales
pub mod Parameters
pub mod Related
pub mod Slots
pub mod Around
pub mod Counts
pub mod Laid
pub mod BindingLoops
pub mod BindingRows
