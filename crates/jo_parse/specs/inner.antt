pub mod Stages
pub mod CutScripts
