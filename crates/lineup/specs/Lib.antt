pub mod Layout
pub mod Lying
pub mod Sweeps
