pub mod Jobs
pub mod Begun
