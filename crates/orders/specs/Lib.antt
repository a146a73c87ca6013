pub mod Answers
pub mod Causes
pub mod Entries
pub mod Rows
pub mod Sides
