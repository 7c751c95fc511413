-- What the functions promise each other: nobody outside has to believe it.
pub mod Walk
pub mod Noting
