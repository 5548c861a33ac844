mod Digits
pub mod KindTests
mod Lengths
mod LineFeeds
mod LineWordLemmas
mod Needs
mod PackedLemmas
mod Permuted
mod Vectors
