pub mod Board
pub mod Work
pub mod Changed
pub mod Marked
pub mod Whole
pub mod Due
pub mod Planned
pub mod Commits
