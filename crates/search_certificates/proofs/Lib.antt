pub mod FirstPlace
pub mod Told
pub mod FormLaws
pub mod Certifying
