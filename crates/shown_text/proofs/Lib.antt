pub mod Pieces
pub mod Printable
pub mod TextLines
