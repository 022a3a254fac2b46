pub mod Outlooks
pub mod LeftAlone
