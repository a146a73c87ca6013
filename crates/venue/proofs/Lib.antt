mod Turns
pub mod Records
pub mod Capped
mod WholeRuns
