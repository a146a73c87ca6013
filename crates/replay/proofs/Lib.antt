pub mod Stepped
pub mod Agreed
pub mod Called
