pub mod Exits
pub mod Lines
