pub mod Trails
pub mod Listing
pub mod Watching
pub mod Searching
pub mod LogLengths
