pub mod ShortSteps
pub mod Sorted
pub mod Journal
pub mod Beginnings
pub mod LogSteps
pub mod LogSend
