pub mod Numbers
pub mod Lines
pub mod Progress
pub mod GatheringModel
pub mod Steps
pub mod Shelf
pub mod Laws
