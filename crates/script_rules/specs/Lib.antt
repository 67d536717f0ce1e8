pub mod Script
pub mod Lines
pub mod Show
pub mod Output
