pub mod FreeWords
pub mod Laws
pub mod Tree
