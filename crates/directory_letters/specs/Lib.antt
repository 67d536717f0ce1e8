pub mod LetterModel
