pub mod FillLemmas
