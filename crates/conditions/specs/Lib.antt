pub mod Lowest
pub mod Walk
pub mod Tally
pub mod Order
pub mod Books
pub mod Answers
pub mod Checks
