pub mod Ranks
pub mod Judged
