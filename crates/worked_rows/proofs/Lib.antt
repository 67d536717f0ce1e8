pub mod Opened
pub mod Computed
pub mod ProcessOpened
pub mod ProcessesComputed
