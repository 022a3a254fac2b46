pub mod Faults
pub mod Plans
pub mod Readers
pub mod Reading
pub mod Writing
