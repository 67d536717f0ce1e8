pub mod Unchanged
pub mod MarksKept
pub mod Fresh
pub mod Decision
pub mod Boards
pub mod Lent
pub mod Send
