pub mod Entries
pub mod EntryViews
pub mod Faults
pub mod Laws
pub mod Listings
pub mod Reports
