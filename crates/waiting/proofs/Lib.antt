pub mod Labs
pub mod Numbered
pub mod Sorting
pub mod Written
