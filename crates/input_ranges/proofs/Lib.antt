pub mod HighBits
pub mod Between
pub mod CharacterDigits
