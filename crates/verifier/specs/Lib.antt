pub mod Faults
pub mod First
pub mod Kept
pub mod Kinded
pub mod Laws
pub mod Steps
pub mod Typed
pub mod Walk
