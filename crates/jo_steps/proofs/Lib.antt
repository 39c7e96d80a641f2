pub mod Going
pub mod Locking
pub mod Storing
pub mod Turning
pub mod Staying
pub mod Loading
pub mod Crosses
pub mod Seating
