pub mod AllClaims
mod Listed
