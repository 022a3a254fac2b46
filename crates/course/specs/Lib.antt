pub mod Asking
pub mod Printing
pub mod Course
pub mod Playing
