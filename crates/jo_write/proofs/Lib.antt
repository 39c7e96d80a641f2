pub mod Looks
pub mod Births
pub mod Capacities
pub mod Storage
pub mod Held
pub mod Puts
pub mod Swaps
