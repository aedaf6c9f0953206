pub mod Places
pub mod Passing
pub mod Looks
pub mod Verdicts
pub mod Trials
pub mod VerdictLaws
