pub mod Numbers
pub mod Statuses
pub mod Inputs
pub mod Written
pub mod Worked
