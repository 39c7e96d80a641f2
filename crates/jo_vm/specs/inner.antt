pub mod Calls
pub mod Lines
pub mod State
pub mod Words
pub mod Ways
pub mod Quick
