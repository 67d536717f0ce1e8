pub mod AnswerLines
pub mod Apart
pub mod Counts
pub mod Covered
pub mod FirmOnTwo
pub mod Grains
pub mod HeldAsOwned
pub mod Kept
pub mod LeastMoved
pub mod LeastOf
pub mod Listed
pub mod ListedEntries
pub mod Missing
pub mod Named
pub mod NoneFailing
pub mod OneAGrain
pub mod OwnerFound
pub mod FirstFailure
mod Points
pub mod ReadyNodes
pub mod RightPieces
pub mod Rows
pub mod ReadDumps
pub mod Tested
mod ViewRings
pub mod Walked
