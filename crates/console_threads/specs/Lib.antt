pub mod Kept
pub mod Driven
pub mod Held
pub mod Endings
