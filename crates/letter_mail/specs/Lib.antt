pub mod Kept
pub mod KeptLetters
pub mod Slots
pub mod Queues
pub mod QueueModel
pub mod Mail
pub mod MailModel
pub mod MailedModel
