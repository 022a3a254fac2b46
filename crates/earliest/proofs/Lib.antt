pub mod First
pub mod Heaps
pub mod InOrder
pub mod Used
pub mod Weak
