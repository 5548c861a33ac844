pub mod Answers
pub mod Fronts
pub mod Heads
pub mod Manifests
pub mod ReportTexts
pub mod Seals
