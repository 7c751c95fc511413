-- What the functions promise each other: nobody outside has to believe it.
pub mod TextRead
pub mod Matching
