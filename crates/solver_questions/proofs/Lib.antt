pub mod Refuting
pub mod Replied
pub mod Growing
pub mod Telling
pub mod Sought
pub mod SoundLaws
