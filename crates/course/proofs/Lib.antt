pub mod Kept
pub mod Later
pub mod Quiet
pub mod Begins
pub mod Lengths
