pub mod Shapes
pub mod ScriptShapes
pub mod Keywords
