pub mod Orders
pub mod Own
pub mod CircularOrder
pub mod LongestUnservedOrder
