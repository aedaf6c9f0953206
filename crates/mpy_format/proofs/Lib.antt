pub mod Endings
mod InTurn
