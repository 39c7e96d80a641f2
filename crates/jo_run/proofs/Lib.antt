pub mod Asking
pub mod Histories
pub mod Places
pub mod Ran
pub mod Running
pub mod Taken
pub mod Whole
