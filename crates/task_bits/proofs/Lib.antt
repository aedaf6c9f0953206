pub mod Written
pub mod Typed
pub mod HavePicks
pub mod FirstValues
pub mod FirstMembers
pub mod Later
pub mod Endings
