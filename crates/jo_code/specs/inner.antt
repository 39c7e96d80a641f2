pub mod Code
pub mod Drafts
pub mod Emitted
pub mod StatementCode
pub mod Scopes
pub mod Stated
pub mod Counts
