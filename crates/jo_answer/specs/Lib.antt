-- To be believed, in reading order: Lines, Forms and Answers. Whoever prints what is due has to believe Texts too.
-- `inner` serves: what is known of the objects that scripts left.
pub mod Lines
pub mod Forms
pub mod Answers
pub mod Texts
