pub mod BookState
pub mod Inside
pub mod Laws
