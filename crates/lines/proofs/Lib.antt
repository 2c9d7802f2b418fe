pub mod Lent
pub mod LentLineReader
