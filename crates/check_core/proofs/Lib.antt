pub mod OneChecking
pub mod CheckClaims
mod Reporting
