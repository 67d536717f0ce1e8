pub mod Decided
pub mod NumeralLaws
pub mod Cuts
pub mod Orderings
pub mod Entries
