pub mod Reading
pub mod Message
pub mod Unchanged
pub mod Cases
