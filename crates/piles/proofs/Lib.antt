pub mod Thousand
mod Runs
