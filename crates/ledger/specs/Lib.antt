pub mod Rows
pub mod Booking
pub mod Ranks
