pub mod Held
pub mod Numbers
pub mod Tests
pub mod Agreements
pub mod Paddings
pub mod Cuts
pub mod PrintedWords
pub mod Ends
