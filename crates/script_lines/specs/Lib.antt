pub mod CommandModel
pub mod Numbers
pub mod ReadAs
pub mod WordCounts
pub mod Spaced
pub mod Printed
pub mod Effects
pub mod Shown
