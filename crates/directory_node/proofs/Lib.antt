pub mod Numbered
pub mod SightBy
mod StatedPlaces
mod ListedSilos
mod ListedRows
mod ManyRanges
