pub mod Parentheses
pub mod Proper
pub mod RoundTrip
pub mod ReadingProper
