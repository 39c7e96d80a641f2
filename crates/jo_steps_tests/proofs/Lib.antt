mod Born
mod Shared
