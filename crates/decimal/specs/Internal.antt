-- What the functions promise each other: nobody outside has to believe it.
pub mod Signs
pub mod Values
pub mod Plain
