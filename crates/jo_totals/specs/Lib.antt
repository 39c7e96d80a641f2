-- To be believed by whoever reads totals, as in the line of a made set: Totals. `inner` serves: totals of parts of a
-- heap, and their bounds.
pub mod Totals
pub mod inner
