pub mod Widths
pub mod MemberWords
pub mod Chosen
pub mod Decoding
