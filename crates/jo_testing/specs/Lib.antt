-- To be believed by whoever compares with the run of a script alone: Alone. No clause of `run` rests on it. `inner`
-- serves: what is left of a run that goes on from a heap.
pub mod Alone
pub mod inner
