pub mod GrainNumbers
pub mod Posted
pub mod Queued
pub mod Least
pub mod TakenBack
