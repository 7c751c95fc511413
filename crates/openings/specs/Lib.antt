pub mod Heads
pub mod Streams
pub mod Headings
pub mod Openings
pub mod Selected
