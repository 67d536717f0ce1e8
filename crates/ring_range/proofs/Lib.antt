pub mod Circle
pub mod ReadAgain
pub mod Parts
pub mod Pairs
pub mod Meets
pub mod Steps
pub mod Cuts
pub mod Same
