pub mod Alternatives
pub mod Resolving
pub mod Scopes
pub mod Searches
pub mod Substitutions
