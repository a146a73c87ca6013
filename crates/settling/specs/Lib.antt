pub mod Bookings
pub mod Claimed
pub mod Items
pub mod Replies
pub mod Settled
