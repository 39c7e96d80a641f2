pub mod Places
mod Entries
mod Numbers
pub mod Numerals
pub mod BitPlaces
pub mod Worked
pub mod Canonical
pub mod Distinct
