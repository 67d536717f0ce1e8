pub mod Hashed
pub mod Order
pub mod Searches
pub mod Pages
pub mod InOrder
pub mod Seals
