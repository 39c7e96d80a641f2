-- Nothing here has to be believed by whoever makes calls. Blocks serves: it is what the calls on blocks say, for
-- whoever builds calls on objects of them. `inner` serves: what private functions do to words.
pub mod Blocks
pub mod Locating
pub mod inner
