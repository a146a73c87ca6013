pub mod Standing
pub mod Handling
pub mod ByTurns
pub mod Crossings
