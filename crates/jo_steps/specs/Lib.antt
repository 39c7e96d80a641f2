-- To be believed by whoever makes calls: Views, and `next_object` of Holding. The others serve: Counting, Holding and
-- Effects are what steps say, for whoever builds calls of them, and `inner` is the rule as a fact about the kit's
-- table.
pub mod Views
pub mod Counting
pub mod Holding
pub mod Effects
pub mod inner
