mod Keeping
mod Passes
