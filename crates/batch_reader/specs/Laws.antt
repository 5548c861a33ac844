-- A batch has one answer, and each of its jobs has one entry.
use Rattle.std.specs.Prelude.{◌≡◌, ℕ, List}
use Rattle.batch_reader.specs.declared.entry.Batch.{Batch}
use Rattle.batch_reader.specs.Batches.{JobText}
use Rattle.batch_reader.specs.Fates.{JobEntry, IsEntry, IsBatch}

-- the same bytes over the same region have one answer
abbrev pub OneBatch : Type 0
OneBatch =
    (region : ℕ) (input : List ℕ) (first second : Batch (List JobEntry)) → IsBatch region input first →
    IsBatch region input second → first ≡ second

-- the same text of a job over the same region has one entry
abbrev pub OneEntry : Type 0
OneEntry =
    (region : ℕ) (job : JobText) (first second : JobEntry) → IsEntry region job first → IsEntry region job second →
    first ≡ second
