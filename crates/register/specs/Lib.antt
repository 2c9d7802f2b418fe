pub mod Whole
pub mod Sections
pub mod Agree
pub mod Passed
pub mod Turns
pub mod Checks
pub mod Searching
pub mod Sets
