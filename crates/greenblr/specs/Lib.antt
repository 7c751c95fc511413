pub mod Exports
pub mod Explained
pub mod Inside
pub mod Stores
pub mod Version
