mod Passes
mod DifferenceLaws
mod FormLaws
mod LookLaws
pub mod TrialLaws
mod KnownLaws
mod RightLaws
mod SoundLaws
mod WantedLaws
