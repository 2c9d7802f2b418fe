pub mod Same
pub mod Told
pub mod Runs
pub mod Replaying
pub mod Whole
pub mod Onwards
pub mod Zeros
