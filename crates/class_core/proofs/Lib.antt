pub mod FiveWords
pub mod GradedFiles
