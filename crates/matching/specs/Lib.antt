pub mod Weights
pub mod Scans
pub mod Deals
pub mod Quotes
