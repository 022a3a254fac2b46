pub mod Owned
pub mod Handles
pub mod Answers
