pub mod Again
pub mod Cases
