pub mod Own
pub mod Seen
pub mod Pieces
pub mod Named
pub mod Whole
pub mod Laws
pub mod OneMap
pub mod Transfers
