pub mod Logs
pub mod Steps
pub mod Ends
pub mod Send
