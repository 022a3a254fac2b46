pub mod Turns
pub mod TurnsAreFair
