pub mod Lines
pub mod Words
