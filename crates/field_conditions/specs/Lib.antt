pub mod Fields
pub mod Stops
