-- The heads of a report: the first lines of its entries, and its last line. And whether they are as a manifest has it.
use Rattle.std.specs.Prelude.{◌≡◌, ℕ, ◌+◌, ◌==◌, ◌⊎◌, Bool, ◌||◌, if◌then◌else◌, List, [], ◌∷◌, ◌++◌, codes, length}
use Rattle.std.specs.Prelude.{MatchOption, filter, slice_get}
use Rattle.std.specs.List.{starts_with}
use Rattle.report_splitter.specs.Fronts.{Begins}
use Rattle.report_splitter.specs.Manifests.{PackedText}
use Rattle.report_splitter.specs.ReportTexts.{head_text, last_head}
use Rattle.report_splitter.specs.declared.heads.HeadFault.{HeadFault}
use Rattle.report_splitter.specs.declared.heads.HeadFault.TheVariants.{Memory, OtherJob}

-- ---- lines

-- some lines, the first of which has this byte before it
abbrev pub before_line : ℕ → List (List ℕ) → List (List ℕ)
before_line b [] = []
before_line b (line ∷ lines) = (b ∷ line) ∷ lines

-- the lines of a text that an LF ends, without it
abbrev pub whole_lines : List ℕ → List (List ℕ)
whole_lines [] = []
whole_lines (b ∷ bs) = if b == 10 then [] ∷ whole_lines bs else before_line b (whole_lines bs)

-- a line begins as the first of an entry does, or as the last of a report
abbrev pub is_head : List ℕ → Bool
is_head line = starts_with (λ x y. x == y) line (codes "JOB ") || starts_with (λ x y. x == y) line (codes "END ")

-- the heads of a report, as far as its lines are whole
abbrev pub heads : List ℕ → List (List ℕ)
heads report = filter is_head (whole_lines report)

-- ---- the heads that a manifest wants

-- what begins the first line of the entry of a job of this name
unfoldable pub named_head : ℕ → List ℕ → List ℕ
named_head place name = head_text place ++ (name ++ codes " ")

-- A line is the head with this index of a report on these jobs, from 0: that of the job with this index, or after all
-- jobs the last line, which counts them.
abbrev pub Fits : List PackedText → ℕ → List ℕ → Type 0
Fits jobs index line =
    MatchOption (slice_get jobs index)
    ((index ≡ length jobs) × Begins (last_head (length jobs)) line)
    (λ job. Begins (named_head (index + 1) job.name) line)

-- each of these lines, of which the first has this index, is the head that it has to be
abbrev pub AllFit : List PackedText → ℕ → List (List ℕ) → Type 0
AllFit jobs index [] = Unit {0}
AllFit jobs index (line ∷ lines) = Fits jobs index line × AllFit jobs (index + 1) lines

-- the first of them that isn't has the index `other`
abbrev pub IsFirstOther : List PackedText → ℕ → List (List ℕ) → ℕ → Type 0
IsFirstOther jobs index [] other = ⊥
IsFirstOther jobs index (line ∷ lines) other =
    ((other ≡ index) × (Fits jobs index line → ⊥)) ⊎ (Fits jobs index line × IsFirstOther jobs (index + 1) lines other)

abbrev pub IsHeadFault : List PackedText → ℕ → List (List ℕ) → HeadFault → Type 0
IsHeadFault jobs index lines Memory = Unit {0}
IsHeadFault jobs index lines (OtherJob other) = IsFirstOther jobs index lines other
