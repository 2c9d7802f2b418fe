pub mod Answers
pub mod Laws
pub mod Seen
pub mod Lent
