pub mod ByForms
