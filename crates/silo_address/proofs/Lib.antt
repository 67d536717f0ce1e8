pub mod Same
pub mod SiloLaws
pub mod SiloCases
pub mod FrontLaws
pub mod BeforeMark
pub mod SpelledLaws
pub mod GrainCases
pub mod GrainStored
pub mod StatedLaws
pub mod ActivationLaws
pub mod Order
mod TextOrder
mod VisibleTexts
