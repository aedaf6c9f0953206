pub mod Fetches
pub mod Files
pub mod Refusing
pub mod Texts
pub mod Views
