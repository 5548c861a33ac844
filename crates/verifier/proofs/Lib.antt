pub mod Arrows
pub mod Callees
pub mod Equal
pub mod Functions
pub mod Keeping
pub mod Law
pub mod SameKinds
pub mod Walks
