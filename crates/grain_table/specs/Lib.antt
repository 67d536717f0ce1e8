pub mod Table
pub mod Hashed
pub mod Buckets
pub mod Stretch
