pub mod Owned
pub mod Tallies
