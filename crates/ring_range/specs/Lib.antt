pub mod Range
pub mod Meet
pub mod Cut
pub mod Text
pub mod Error
