pub mod Folds
pub mod Indices
pub mod Results
