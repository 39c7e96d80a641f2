pub mod FirstLine
pub mod Series
