pub mod Meant
pub mod Asking
