pub mod Control
pub mod Shape
pub mod Read
pub mod Part
