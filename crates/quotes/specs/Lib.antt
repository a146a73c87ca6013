pub mod Quotes
pub mod Steps
