pub mod Gates
pub mod Standing
pub mod Calls
pub mod Histories
pub mod Logs
pub mod Guaranteed
