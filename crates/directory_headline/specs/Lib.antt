pub mod Setting
pub mod SiloState
pub mod Shown
pub mod Refined
