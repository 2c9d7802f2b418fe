pub mod Limit
pub mod Stops
