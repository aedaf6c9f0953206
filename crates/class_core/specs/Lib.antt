pub mod Gradings
pub mod Requests
pub mod Told
pub mod Words
