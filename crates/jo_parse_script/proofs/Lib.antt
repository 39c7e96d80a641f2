pub mod Lists
pub mod Rooms
pub mod Parts
pub mod Targets
pub mod Rules
pub mod ScriptRules
pub mod Exactly
