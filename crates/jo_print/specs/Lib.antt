-- Nothing here has to be believed: what is printed is in words of jo_model. `inner` serves: fragments of the output.
pub mod inner
