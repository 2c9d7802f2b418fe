pub mod Turns
pub mod Kept
pub mod Cases
