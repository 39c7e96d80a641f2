pub mod Outcomes
pub mod ScriptOutcomes
pub mod Answered
