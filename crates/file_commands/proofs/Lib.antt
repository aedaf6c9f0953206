pub mod Calling
pub mod Claims
pub mod Endings
pub mod FirstRefusals
pub mod Stopping
