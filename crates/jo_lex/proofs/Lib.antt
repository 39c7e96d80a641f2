pub mod Texts
pub mod Punctuation
pub mod Literals
pub mod Reading
pub mod Worked
pub mod Ending
pub mod Groups
pub mod Lengths
