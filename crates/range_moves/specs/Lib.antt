pub mod Arcs
pub mod Moves
pub mod Walk
pub mod Worked
