mod Alikes
mod Laters
pub mod Within
mod Making
pub mod Owning
pub mod Pairs
