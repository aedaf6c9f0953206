pub mod MemberCounts
pub mod Numbers
pub mod Live
