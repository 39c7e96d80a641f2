-- To be believed, in reading order: Objects, Heaps, One, History, Logs, Placed, Joined, Printed and Rendered. Whoever
-- makes calls has to believe WellFormed, Valid, Calls and Fits too, and who gives a heap of their own to read, Reading. `inner` serves the proof that a history stays
-- lawful while it grows.
pub mod Objects
pub mod Heaps
pub mod One
pub mod WellFormed
pub mod History
pub mod Logs
pub mod Placed
pub mod Joined
pub mod inner
pub mod Printed
pub mod Rendered
pub mod Calls
pub mod Valid
pub mod Fits
pub mod Reading
