-- What is cut off the front of a report.
use Rattle.std.proofs.Common.{◌≡◌, ◌≢◌, ◌<◌, ◌+◌, ◌^◌, ℕ, List, [], ◌∷◌, ◌++◌, length, refl}
use Rattle.std.proofs.Common.{arith}
use Rattle.std.specs.Prelude.{All, codes, decimal}
use Rattle.std.proofs.lemmas.List.{append_assoc, get_or-append-add, get_or_append_left, length-append}
use Rattle.std.proofs.lemmas.List.Elements.{All-append, All-head, All-tail}
use Rattle.memchr.specs.Find.{OccursAt}
use Rattle.report_splitter.specs.Fronts.{HasFeed, IsTail}
use Rattle.report_splitter.specs.ReportTexts.{EntryText, IsEntryText, head_text, last_head, next_head, report_from}
use Rattle.report_splitter.specs.ReportTexts.{tail_text}
use Rattle.report_splitter.proofs.EntryLemmas.{digits_apart}

-- ---- texts with an LF

feed_before : (front rest : List ℕ) → HasFeed front → HasFeed (front ++ rest)
feed_before front rest h = grind (arith, length-append, get_or_append_left)

feed_after : (front rest : List ℕ) → HasFeed rest → HasFeed (front ++ rest)
feed_after front rest h =
    (length front + h.0, omega (arith, h.1, length-append {A = ℕ}), simp get_or-append-add h.2)

-- ---- the line after an entry

abbrev IsApart : ℕ → Type 0
IsApart byte = byte ≢ 10

occurs_front : (text front rest : List ℕ) (at : ℕ) → OccursAt text (front ++ rest) at → OccursAt text front at
occurs_front text front rest at o = grind (arith, length-append, get_or_append_left)

job_line : (place : ℕ) → place < 2 ^ 64 → All IsApart (codes "JOB " ++ (decimal place ++ codes " "))
job_line place small = All-append IsApart (codes "JOB ") (decimal place ++ codes " ") (grind arith)
    (All-append IsApart (decimal place) (codes " ") (digits_apart place 10 small (omega arith)) (grind arith))

end_line : (jobs : ℕ) → jobs < 2 ^ 64 → All IsApart (codes "END " ++ (decimal jobs ++ codes " jobs "))
end_line jobs small = All-append IsApart (codes "END ") (decimal jobs ++ codes " jobs ") (grind arith)
    (All-append IsApart (decimal jobs) (codes " jobs ") (digits_apart jobs 10 small (omega arith)) (grind arith))

tail_before_job : (entry : EntryText) (place : ℕ) → IsEntryText entry → place < 2 ^ 64
    → IsTail (tail_text entry) (head_text place)
unfolding head_text
tail_before_job entry place t small = record {
  one_line = job_line place small;
  lines = t.lines;
  last_feed = t.last_feed;
  no_next = λ at o. t.no_job_line at (occurs_front _ (codes "\nJOB ") _ at o);
}

tail_before_end : (entry : EntryText) (jobs : ℕ) → IsEntryText entry → jobs < 2 ^ 64
    → IsTail (tail_text entry) (last_head jobs)
unfolding last_head
tail_before_end entry jobs t small = record {
  one_line = end_line jobs small;
  lines = t.lines;
  last_feed = t.last_feed;
  no_next = λ at o. t.no_last_line at (occurs_front _ (codes "\nEND ") _ at o);
}

-- an entry before the line that is next
pub tail_before : (entry : EntryText) (place jobs : ℕ) → IsEntryText entry → jobs < 2 ^ 64
    → IsTail (tail_text entry) (next_head place jobs)
tail_before entry place jobs t small =
    grind (arith, tail_before_job entry (place + 1) t, tail_before_end entry jobs t small)

-- a report from an entry on, after this head, in its parts
pub record EntryParts (place jobs refused : ℕ) (entry : EntryText) (entries : List EntryText) (head : List ℕ)
    : Type 0 where
  pub is_text : IsEntryText entry
  pub tail : IsTail (tail_text entry) (next_head place jobs)
  pub more : List ℕ
  pub after : report_from (place + 1) jobs refused entries ≡ next_head place jobs ++ more
  pub feed : HasFeed (next_head place jobs ++ more)
  pub parts : report_from place jobs refused (entry ∷ entries) ≡ head ++ (tail_text entry ++ (next_head place jobs
      ++ more))

pub entry_parts : (place jobs refused : ℕ) (entry : EntryText) (entries : List EntryText) (head : List ℕ)
    → All IsEntryText (entry ∷ entries) → place + length entries ≡ jobs → jobs < 2 ^ 64 → head ≡ head_text place
    → EntryParts place jobs refused entry entries head
entry_parts place jobs refused entry [] head all sum small is =
    let t = All-head IsEntryText entry [] all in
    record {
      is_text = t;
      tail = tail_before entry place jobs t small;
      more = decimal refused ++ codes " refused\n";
      after = grind arith;
      feed = feed_after (next_head place jobs) _
          (feed_after (decimal refused) (codes " refused\n") (8, omega arith, refl));
      parts = grind (arith, append_assoc);
    }
entry_parts place jobs refused entry (next ∷ entries) head all sum small is =
    let t = All-head IsEntryText entry (next ∷ entries) all in
    let u = All-head IsEntryText next entries (All-tail IsEntryText entry (next ∷ entries) all) in
    record {
      is_text = t;
      tail = tail_before entry place jobs t small;
      more = tail_text next ++ report_from (place + 1 + 1) jobs refused entries;
      after = grind (arith, append_assoc);
      feed = feed_after (next_head place jobs) _ (feed_before (tail_text next) _
          (rw u.last_feed (feed_after u.lines (codes "\n") (0, omega arith, refl))));
      parts = grind (arith, append_assoc);
    }
