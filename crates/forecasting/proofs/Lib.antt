mod Asked
pub mod Held
mod Listed
