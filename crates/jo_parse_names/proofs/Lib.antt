pub mod Names
pub mod Alike
pub mod Turns
pub mod Counted
pub mod Judging
pub mod Steps
pub mod Stated
pub mod Scripts
