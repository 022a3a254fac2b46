pub mod Fields
pub mod Boxes
