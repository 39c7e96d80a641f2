-- To be believed: Words, and Run, which has the words of the theorem. `inner` serves: what private functions of `run`
-- say.
pub mod Words
pub mod Run
pub mod inner
