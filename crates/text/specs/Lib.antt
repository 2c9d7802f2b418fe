pub mod Backward
pub mod Patterns
pub mod Placing
pub mod Order
