pub mod Faults
pub mod CarriedOut
pub mod Printed
pub mod Endings
