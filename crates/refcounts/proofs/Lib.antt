pub mod Slots
pub mod Puts
pub mod Changes
pub mod Freed
