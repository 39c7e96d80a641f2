-- To be believed by whoever drives a machine: Machines, and Replies, which it cites. No clause of `run` rests on
-- them. `inner` serves: what private functions do to the state of a machine.
pub mod Machines
pub mod Replies
pub mod inner
