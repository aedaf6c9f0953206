pub mod Begun
pub mod MoreOperators
pub mod OneByOne
pub mod SidesRead
