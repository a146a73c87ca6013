pub mod Ranked
pub mod Holding
pub mod Standing
