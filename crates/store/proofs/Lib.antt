-- Laws that belong to no one function.
pub mod Pastes
pub mod Bits
pub mod Spare
pub mod Records
pub mod Layouts
pub mod Marks
pub mod House
pub mod Images
pub mod Opened
pub mod Changed
pub mod Ready
pub mod Listing
pub mod Starts
pub mod Written
pub mod Called
