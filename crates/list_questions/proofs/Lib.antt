pub mod AskingLaws
pub mod SoundLaws
pub mod TableLaws
pub mod TrialLaws
