pub mod Bytes
pub mod Lines
pub mod Readings
pub mod Said
pub mod Spelled
pub mod TableLemmas
