pub mod Executed
pub mod Gone
pub mod Kepts
pub mod Mirrors
pub mod Motions
pub mod Searches
