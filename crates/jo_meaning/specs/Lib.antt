-- To be believed, in reading order: Runs, State, Values, Keys, Printed, Expressions, Statements, Scripts, Histories
-- and Output. Play serves: the history that one thread gives, which tests compare with. `inner` serves lemmas on
-- scripts.
pub mod Runs
pub mod State
pub mod Values
pub mod Keys
pub mod Printed
pub mod Expressions
pub mod Statements
pub mod Scripts
pub mod Play
pub mod Histories
pub mod Output
pub mod inner
