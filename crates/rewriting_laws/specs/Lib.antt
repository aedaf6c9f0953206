pub mod RuleCalls
pub mod RewritingLaws
pub mod TaskLaws
