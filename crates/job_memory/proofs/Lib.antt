pub mod Grants
pub mod Slots
pub mod Booked
pub mod Turns
pub mod Released
pub mod Rewritten
