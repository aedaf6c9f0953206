pub mod TableBits
pub mod LaneNumbers
pub mod DigitLists
pub mod DigitNumbers
pub mod ColumnValues
pub mod FirstPlaces
