-- That the text of a program is printed lines whose tokens spell it.
pub mod ProgramLines
pub mod ProgramText
pub mod Numerals
pub mod Literals
pub mod TermSpelling
pub mod ItemSpelling
pub mod LineNesting
pub mod BracketBalance
pub mod TokensApart
pub mod FineLines
pub mod LimitLengths
