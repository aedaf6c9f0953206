pub mod Scans
pub mod Agreement
pub mod Turns
pub mod Sound
pub mod Ranges
pub mod Derivations
