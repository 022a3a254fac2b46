pub mod Imports
pub mod Meaning
