pub mod LogLaws
pub mod Greatest
