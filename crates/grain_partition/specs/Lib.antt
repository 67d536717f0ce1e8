pub mod Holdings
pub mod Search
pub mod Served
pub mod Settled
pub mod Sight
pub mod Kept
pub mod Seen
pub mod BySilo
