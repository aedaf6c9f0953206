pub mod BestLists
pub mod Answers
pub mod Listings
