-- To be believed, in reading order: Operators, Expressions, Statements, Refusals, Terminals, TokenRefusals,
-- Declarations, NameRefusals, Cuts and Sets. Whoever runs scripts has to believe Sound and Soundness too. `inner`
-- serves the parser and its proof.
pub mod Operators
pub mod Expressions
pub mod Statements
pub mod Refusals
pub mod Terminals
pub mod TokenRefusals
pub mod Declarations
pub mod NameRefusals
pub mod Sound
pub mod Cuts
pub mod Sets
pub mod Soundness
pub mod inner
