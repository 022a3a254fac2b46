pub mod Passing
pub mod Rows
pub mod Said
