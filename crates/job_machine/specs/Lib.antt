pub mod Admissions
pub mod Lanes
pub mod Machines
pub mod Replays
pub mod SlotOf
pub mod Sound
pub mod Workbench
