pub mod Acts
pub mod Ascending
pub mod Coming
pub mod Filling
pub mod Heads
pub mod Taking
