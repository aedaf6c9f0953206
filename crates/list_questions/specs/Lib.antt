pub mod Answering
pub mod Asking
pub mod Tables
pub mod Trials
