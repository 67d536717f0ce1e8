mod Chains
mod WordsAgain
mod WordsTold
mod Numbers
mod WordsSaid
pub mod Given
pub mod ReportForms
mod RangeForms
pub mod FormsAgain
pub mod FormsGave
pub mod LettersAgain
pub mod LineWords
pub mod LinesAgain
mod FormsSaid
pub mod LinesSaid
pub mod LinesInRange
mod Beginnings
mod Lines
mod Letters
pub mod StaysWhole
pub mod Joins
