-- To be believed by whoever makes calls: Ready and Placing. The others serve: Locking and Releasing are what is known
-- while a lock is held, for whoever builds calls of them.
pub mod Ready
pub mod Placing
pub mod Locking
pub mod Releasing
