mod Cuts
mod InTurn
pub mod RoundTrip
mod Spelling
