pub mod Arrows
pub mod Causes
pub mod Given
pub mod HeadLaws
pub mod Judged
pub mod LexedFaults
pub mod LineLaws
pub mod RuleLaws
