pub mod Lists
pub mod Masks
pub mod Wrapping
