pub mod Delivered
pub mod SoFar
pub mod Causes
pub mod Endings
