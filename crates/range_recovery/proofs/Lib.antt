pub mod Entries
pub mod Lists
pub mod Indexes
pub mod Marks
pub mod Reported
pub mod Told
pub mod Reports
pub mod LastGrains
