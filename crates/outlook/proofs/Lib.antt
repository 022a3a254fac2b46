pub mod Alone
pub mod Held
pub mod Lawful
pub mod Listed
pub mod OneLab
