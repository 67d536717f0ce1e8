pub mod Numbers
pub mod Log
pub mod Shown
pub mod Rule
pub mod Ends
pub mod Looks
