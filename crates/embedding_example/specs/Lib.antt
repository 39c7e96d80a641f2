-- Nothing here has to be believed: Working is what the methods of a worker ask for.
pub mod Working
