pub mod DescriptorLemmas
pub mod FoldLemmas
pub mod PackLemmas
pub mod PlaceLemmas
pub mod ProgressionLemmas
pub mod SegmentLemmas
