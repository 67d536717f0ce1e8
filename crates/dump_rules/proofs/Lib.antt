mod TurningHashes
pub mod Contained
mod RightDumps
pub mod Shapes
pub mod RightShapes
pub mod Computed
pub mod Opened
