-- That printed lines are read as their tokens.
pub mod TokenPieces
pub mod PrintedParts
pub mod PrintedBytes
pub mod PrintedRows
pub mod ScrapBrackets
pub mod PrintedLines
