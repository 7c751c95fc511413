-- A store: the records of one relation in a lent buffer.
pub mod Store
pub mod Calls
pub mod Listing
pub mod Internal
