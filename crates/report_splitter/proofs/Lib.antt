mod AnswerLemmas
mod FrontLemmas
mod EntryLemmas
mod CutLemmas
mod HeadLemmas
mod ManifestLemmas
mod SplitLemmas
