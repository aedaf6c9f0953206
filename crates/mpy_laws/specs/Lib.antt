pub mod LineLaws
pub mod TreeLaws
