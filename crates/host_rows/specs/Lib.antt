pub mod Row
pub mod Keeps
