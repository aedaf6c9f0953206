pub mod Counting
pub mod Digits
pub mod Numbered
pub mod Picks
pub mod Live
pub mod LiveFits
