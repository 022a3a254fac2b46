pub mod Division
pub mod Limits
pub mod Refusals
pub mod Results
