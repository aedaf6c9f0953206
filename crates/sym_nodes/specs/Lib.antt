pub mod Operands
pub mod Nodes
pub mod Members
pub mod Environments
pub mod Views
pub mod Plain
pub mod Roots
pub mod Later
