pub mod Turn
pub mod Area
pub mod Sums
