pub mod Digits
pub mod InWords
pub mod ListLemmas
pub mod Numbers
pub mod Values
