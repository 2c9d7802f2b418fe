pub mod Lines
pub mod Message
pub mod Kept
pub mod Fields
