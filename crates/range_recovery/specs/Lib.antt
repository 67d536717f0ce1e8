pub mod Silos
pub mod Numbers
pub mod Progress
pub mod Gathered
pub mod Kept
