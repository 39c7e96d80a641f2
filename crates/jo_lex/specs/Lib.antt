-- To be believed, in reading order: Characters, Words, Punctuators, Pieces, Tokens and Faults. `inner` serves:
-- classes, steps and views of the code, which private functions cite.
pub mod Characters
pub mod Words
pub mod Punctuators
pub mod Pieces
pub mod Tokens
pub mod Faults
pub mod inner
