pub mod Own
pub mod Placed
pub mod Whole
pub mod Begun
pub mod Lawful
