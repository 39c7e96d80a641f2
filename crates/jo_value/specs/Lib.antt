-- To be believed, in reading order: Values, Texts and Keys. Whoever reads the words of the shared heap has to believe
-- Words too: the number that stands for each value. `inner` serves: what the table of texts keeps.
pub mod Texts
pub mod Values
pub mod Keys
pub mod Words
pub mod inner
