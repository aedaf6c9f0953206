pub mod OfKind
pub mod Meanings
pub mod Places
pub mod Gives
pub mod Singles
pub mod Membership
pub mod Written
pub mod ByPlace
