pub mod Tables
pub mod Passes
pub mod Goings
pub mod Locking
pub mod Storing
pub mod KindsOfLoads
