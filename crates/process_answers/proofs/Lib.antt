pub mod Written
pub mod Outcomes
pub mod Printing
pub mod Tellings
pub mod Received
mod Answered
pub mod Runs
