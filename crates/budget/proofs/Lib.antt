pub mod Holding
pub mod Resting
