pub mod Changed
pub mod Asked
