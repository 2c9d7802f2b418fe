pub mod Exchange
pub mod Posts
pub mod Sent
pub mod Turn
pub mod Mornings
pub mod Days
