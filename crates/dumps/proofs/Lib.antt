mod Along
pub mod InOrder
mod MembersTold
mod PlainTexts
pub mod StrictRise
pub mod SetsMade
pub mod Spelled
mod MembersSoFar
pub mod Ties
mod Told
pub mod ToldApart
mod Counted
pub mod DumpShapes
pub mod NodeShapes
pub mod ReadLists
pub mod Refused
pub mod Tests
pub mod Joined
