pub mod SharedState
pub mod Owners
pub mod Inside
pub mod Laws
pub mod Making
