-- To be believed by whoever builds on code: Machine, Needs and Behaves. No clause of `run` rests on them. `inner`
-- serves: what the compiler puts, part by part.
pub mod Machine
pub mod Needs
pub mod Behaves
pub mod inner
