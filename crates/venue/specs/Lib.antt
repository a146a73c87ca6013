pub mod Meaning
pub mod Questions
pub mod Books
pub mod Caps
pub mod Steps
pub mod Runs
