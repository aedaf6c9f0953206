pub mod Entering
pub mod Ending
pub mod Claiming
pub mod Counting
pub mod Finding
pub mod Texts
pub mod Listing
