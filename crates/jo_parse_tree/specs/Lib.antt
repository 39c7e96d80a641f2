-- To be believed: Trees, Words and Blocks. Whoever reads the Rust types of trees has to believe Views and ScriptViews
-- too, which say what tree a value of them is.
pub mod Trees
pub mod Views
pub mod ScriptViews
pub mod Words
pub mod Blocks
