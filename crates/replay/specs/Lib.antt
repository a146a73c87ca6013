pub mod Lists
pub mod Queues
pub mod Fills
pub mod Quotes
pub mod Agreeing
