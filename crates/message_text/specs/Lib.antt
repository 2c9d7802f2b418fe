pub mod Parts
pub mod Postings
pub mod Returns
pub mod Message
