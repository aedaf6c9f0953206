pub mod FileLaws
pub mod HeadViews
pub mod ReadingViews
pub mod RuleFiles
pub mod RuleLines
pub mod RuleReading
