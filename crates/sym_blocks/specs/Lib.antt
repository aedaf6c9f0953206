pub mod Turns
pub mod Runs
pub mod Bodies
pub mod Typing
pub mod Operating
pub mod Elements
