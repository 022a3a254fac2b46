mod Digits
pub mod Written
