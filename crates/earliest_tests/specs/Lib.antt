pub mod Dated
pub mod Kept
