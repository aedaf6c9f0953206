pub mod FreeRewritings
pub mod BestRewritings
mod Refuted
mod Shown
mod ShortTrails
mod Budgets
