pub mod Quiet
pub mod Waits
pub mod Answers
pub mod Exchanges
pub mod Requests
pub mod Parts
pub mod Worked
