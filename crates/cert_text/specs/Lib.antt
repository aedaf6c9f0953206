pub mod LineForms
pub mod Limits
pub mod Certificates
pub mod CertLaws
pub mod Words
pub mod Drafts
