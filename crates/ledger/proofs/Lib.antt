pub mod Adding
pub mod Balance
pub mod Seating
pub mod Summing
