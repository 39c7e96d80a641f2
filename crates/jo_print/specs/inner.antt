pub mod Fragments
pub mod Lines
pub mod Series
