pub mod Numeral
pub mod Position
pub mod Words
pub mod Printed
