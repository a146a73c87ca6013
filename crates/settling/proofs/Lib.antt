pub mod Alike
mod OfReply
pub mod Onward
mod Replying
