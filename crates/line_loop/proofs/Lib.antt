pub mod Calls
mod Held
mod LastLines
mod Pieces
mod Played
pub mod Scripts
mod Sent
mod Steps
mod Turns
