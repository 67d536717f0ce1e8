pub mod Pairs
pub mod LastPair
pub mod Rounds
pub mod Caches
