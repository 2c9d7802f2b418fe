pub mod Groups
pub mod Laying
pub mod Writes
