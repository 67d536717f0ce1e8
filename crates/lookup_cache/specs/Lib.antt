pub mod Capacity
pub mod Numbers
pub mod Used
pub mod Hints
