pub mod LaidOut
pub mod Digits
pub mod Decoding
pub mod Items
pub mod RangedValues
pub mod CaseLaws
pub mod CaseArgs
pub mod PartValues
