pub mod Digits
pub mod HeadParts
pub mod Places
pub mod Proposing
