pub mod Counts
pub mod Picky
pub mod Relays
