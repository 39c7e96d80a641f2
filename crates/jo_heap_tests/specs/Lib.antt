-- Nothing here has to be believed: Working is words of tests.
pub mod Working
