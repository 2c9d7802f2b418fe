pub mod Postings
pub mod Rows
pub mod Chosen
pub mod Listed
pub mod Returns
