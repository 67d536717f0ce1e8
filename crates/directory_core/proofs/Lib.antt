pub mod Entries
pub mod Kept
pub mod Made
pub mod Tidied
pub mod Happenings
pub mod Runs
