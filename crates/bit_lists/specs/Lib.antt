pub mod Lists
pub mod Moves
pub mod Places
pub mod Slices
pub mod Repeats
pub mod Ranges
pub mod Decoders
