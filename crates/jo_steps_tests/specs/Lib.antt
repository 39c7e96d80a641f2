-- Nothing here has to be believed: Births and Sharing are words of tests.
pub mod Births
pub mod Sharing
