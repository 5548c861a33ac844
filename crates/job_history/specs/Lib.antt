pub mod Goals
pub mod Kept
pub mod Nexts
pub mod Places
pub mod Sound
