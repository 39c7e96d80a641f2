pub mod Calls
pub mod Releases
pub mod Waiting
pub mod Holding
pub mod Finishing
