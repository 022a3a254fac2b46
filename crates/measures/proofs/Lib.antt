pub mod Checks
pub mod Quotients
pub mod Rates
