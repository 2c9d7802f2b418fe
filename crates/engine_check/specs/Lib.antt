pub mod Passing
pub mod Read
pub mod References
pub mod Walks
pub mod Zeros
