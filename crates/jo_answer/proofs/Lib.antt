pub mod Outputs
pub mod Runnable
pub mod Worked
