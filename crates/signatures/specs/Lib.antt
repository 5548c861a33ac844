pub mod Faults
pub mod First
pub mod Lines
pub mod Reading
pub mod Scan
pub mod Signatures
pub mod Spelling
pub mod Table
