pub mod Read
pub mod ReadStatements
