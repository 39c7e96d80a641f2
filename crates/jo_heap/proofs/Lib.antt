pub mod Both
pub mod Written
pub mod Numbered
pub mod Begun
pub mod Made
