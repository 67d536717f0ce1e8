pub mod Numbers
pub mod SiloModel
pub mod AnswerModel
pub mod Later
