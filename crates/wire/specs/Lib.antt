-- Bytes, words, lists, codes, sizes, entries and orders.
pub mod Words
pub mod Lists
pub mod Codes
pub mod Limits
pub mod Entries
pub mod Orders
pub mod Options
pub mod Classes
pub mod Versions
pub mod Internal
