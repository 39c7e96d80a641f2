pub mod Scripts
pub mod Lengths
pub mod Worked
