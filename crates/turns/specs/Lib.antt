pub mod Orders
pub mod Turns
pub mod Circular
pub mod CircularIsFair
pub mod Places
pub mod PlacesStay
pub mod LongestUnserved
pub mod LongestUnservedIsFair
