pub mod Keys
pub mod Places
pub mod Queues
pub mod Tickets
