pub mod Named
pub mod Changed
pub mod Equal
