pub mod JobBlocks
pub mod Placing
pub mod Inside
pub mod Laws
