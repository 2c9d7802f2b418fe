pub mod Answers
pub mod Accepted
pub mod Minus
pub mod Measured
pub mod Opening
pub mod Moves
pub mod Message
pub mod Turn
