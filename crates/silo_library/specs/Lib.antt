pub mod Handle
pub mod OpenSiloValue
