pub mod Begun
pub mod TheirPlaces
pub mod Heard
