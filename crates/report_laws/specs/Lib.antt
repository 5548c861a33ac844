pub mod EntryParts
pub mod Laws
pub mod LineStarts
pub mod MovedCode
