pub mod Right
pub mod BestLaws
pub mod CertificateLaws
pub mod Topics
