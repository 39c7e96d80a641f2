-- To be believed by whoever runs or writes made sets: Made.
pub mod Made
