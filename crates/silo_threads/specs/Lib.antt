pub mod Cluster
pub mod Replies
pub mod Followed
pub mod Tallied
