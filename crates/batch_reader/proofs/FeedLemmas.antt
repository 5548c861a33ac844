-- A batch in pieces.
use Rattle.batch_reader.proofs.LineLemmas.{feeds_of_joined, feeds_of_open, feeds_of_whole, BeginsLine, begins_line}
use Rattle.batch_reader.proofs.LineLemmas.{lines_nil, lines_of_last, lines_of_whole, numbered_next, no_feed_append}
use Rattle.batch_reader.proofs.LineLemmas.{numbered_none, numbered_past, whole_begins_line, whole_with}
use Rattle.std.specs.Prelude.{Ok, OnOk, OnErr, ◌==◌}
use Rattle.std.proofs.Common.{◌≡◌, ℕ, true, false, ◌+◌, ◌<◌, ◌≤◌, List, [], ◌∷◌, ◌++◌, length, Result, Err, refl, sym}
use Rattle.std.proofs.Common.{arith, rules, append_assoc, length-append, ◌-◌}
use Rattle.std.proofs.lemmas.Bool.Decides.{nat_tests}
use Rattle.std.proofs.lemmas.List.{append-nil}
use Rattle.vcode_base.specs.declared.limits.TheConstants.{MOST_JOBS}
use Rattle.batch_reader.specs.declared.entry.Batch.{Batch}
use Rattle.batch_reader.specs.Batches.{Refusal, RuledJobs, batch_in, jobs_of}
use Rattle.batch_reader.specs.Fates.{JobEntry, IsBatch}
use Rattle.batch_reader.specs.Feeds.{AnswersLines, ByLines, FeedState, HasCome, HasEnded, HoldsNoLineFeed, IsFirstLine}
use Rattle.batch_reader.specs.Feeds.{IsOpenLine, IsRefused, IsWholeLine, LinesState, RefusesLongLine, Stands, HasComeIn}
use Rattle.batch_reader.specs.Headings.{line_of, numbered_lines}
use Rattle.batch_reader.specs.Lines.{lines}
use Rattle.batch_reader.specs.Standings.{Fresh}
use Rattle.batch_reader.proofs.ReaderLemmas.{behind_none, stand}
use Rattle.batch_reader.specs.Runs.{TakesCode}

abbrev feed_with : List ℕ → LinesState → FeedState
feed_with held s = record { held = held; lines = s }

come_to : {f : FeedState} {text : List ℕ} (whole : List ℕ) (come : ByLines) → text ≡ whole ++ f.held
    → ((rest : List ℕ) → jobs_of (whole ++ rest) ≡ come (numbered_lines f.lines.number f.lines.left (lines rest)))
    → Stands f.lines come → HasCome f text
come_to whole come bytes batch stands =
    record { whole = whole; come = come; bytes = bytes; batch = batch; stands = stands }

-- ---- before the first byte

pub nothing_has_come : (region : ℕ) (held : List ℕ) (s : LinesState) → held ≡ [] → IsFirstLine region s
    → HasCome (feed_with held s) []
unfolding jobs_of
nothing_has_come region held s none first =
    come_to [] (batch_in MOST_JOBS) (sym none) (λ rest. grind (arith, first.number, first.left))
    (stand [] MOST_JOBS Fresh (rw first.entries tt) (rw first.stage tt) (rw first.entries refl)
    (λ ls. grind (arith, behind_none (batch_in MOST_JOBS ls))))

-- ---- more bytes of the open line

pub more_has_come : (f : FeedState) (held more before : List ℕ) (s : LinesState) → held ≡ f.held ++ more → s ≡ f.lines
    → HasCome f before → HasCome (feed_with held s) (before ++ more)
more_has_come f held more before s same same_lines h = grind (arith, append_assoc)

-- ---- a whole line

pub line_has_come : {T E : Type 0} (r : Result T E) (f : FeedState) (text rest held : List ℕ) (old s : LinesState)
    → HoldsNoLineFeed f.held → IsWholeLine rest → text ≡ f.held ++ rest → held ≡ [] → old ≡ f.lines
    → OnOk r ((come : ByLines) → Stands old come → Stands s (λ ls. come (line_of old.number text ∷ ls)))
    → OnOk r (s.number ≡ old.number + 1) → OnOk r (s.left + length text ≡ old.left)
    → OnOk r ((before : List ℕ) → HasCome f before → HasCome (feed_with held s) (before ++ rest))
line_has_come (Ok _) f text rest held old s none whole is cleared same taken number left =
    λ before h. let line : IsWholeLine text = rw is (whole_with f.held rest none whole) in
    let n : s.number ≡ f.lines.number + 1 = rw same at number in
    let l : s.left + length text ≡ f.lines.left = rw same at left in
    come_to (h.whole ++ text) (λ ls. h.come (line_of f.lines.number text ∷ ls))
    (grind (arith, append_assoc, append-nil))
    (λ more. grind (arith, append_assoc, h.batch (text ++ more), lines_of_whole, numbered_next, n, l))
    ((rw same at taken) h.come h.stands)
line_has_come (Err _) f text rest held old s none whole is cleared same taken number left = tt

-- ---- a line past the limit

long_has_come : (f : FeedState) (rest before held : List ℕ) (s : LinesState)
    → ((more : List ℕ) → BeginsLine (f.held ++ rest) ((f.held ++ rest) ++ more)) → held ≡ []
    → ((come : ByLines) → Stands f.lines come → RefusesLongLine f.lines s come)
    → f.lines.left < length f.held + length rest → HasCome f before → HasCome (feed_with held s) (before ++ rest)
long_has_come f rest before held s begins cleared refuses long h =
    let refused = refuses h.come h.stands in
    let text = f.held ++ rest in
    come_to (h.whole ++ text) (λ ls. Err refused.refusal) (grind (arith, append_assoc, append-nil))
    (λ more. grind (
      arith,
      append_assoc,
      length-append,
      h.batch (text ++ more),
      begins more,
      numbered_past,
      refused.comes,
    ))
    refused.stands

pub long_line_has_come : (f : FeedState) (rest before held : List ℕ) (s : LinesState)
    → HoldsNoLineFeed f.held → IsWholeLine rest → held ≡ []
    → ((come : ByLines) → Stands f.lines come → RefusesLongLine f.lines s come)
    → f.lines.left < length f.held + length rest → HasCome f before → HasCome (feed_with held s) (before ++ rest)
long_line_has_come f rest before held s none whole =
    long_has_come f rest before held s
    (λ more. whole_begins_line (f.held ++ rest) more (whole_with f.held rest none whole))

pub long_rest_has_come : (f : FeedState) (rest before held : List ℕ) (s : LinesState)
    → HoldsNoLineFeed f.held → HoldsNoLineFeed rest → held ≡ []
    → ((come : ByLines) → Stands f.lines come → RefusesLongLine f.lines s come)
    → f.lines.left < length f.held + length rest → HasCome f before → HasCome (feed_with held s) (before ++ rest)
long_rest_has_come f rest before held s none more_none cleared refuses long =
    long_has_come f rest before held s (λ more. begins_line (f.held ++ rest) more
    (no_feed_append f.held rest none more_none) (omega (arith, long, length-append f.held rest))) cleared refuses long

-- ---- after what refuses the batch

pub refused_has_come : (f : FeedState) (piece before held : List ℕ) → held ≡ [] → IsRefused f.lines
    → HasCome f before → HasCome (feed_with held f.lines) (before ++ piece)
refused_has_come f piece before held cleared refused h =
    come_to (before ++ piece) h.come (grind (arith, append-nil))
    (λ more. grind (arith, append_assoc, h.batch, h.stands.comes))
    h.stands

-- ---- lines of code that are taken at once

pub nothing_comes_in : (f : FeedState) (piece : List ℕ) → HasComeIn f f piece piece
nothing_comes_in f piece = search rules

pub code_has_come : (f : FeedState) (text before : List ℕ) (s : LinesState) → f.held ≡ []
    → ((come : ByLines) → Stands f.lines come → TakesCode f.lines s text come)
    → HasCome f before → HasCome (feed_with f.held s) (before ++ text)
code_has_come f text before s none takes h =
    let taken = takes h.come h.stands in
    record {
      whole = h.whole ++ text;
      come = taken.next;
      bytes = grind (arith, append-nil);
      batch = λ more. grind (arith, append_assoc, h.batch (text ++ more), taken.comes more);
      stands = taken.stands;
    }

-- ---- the end

pub ended_with_line : {T E : Type 0} (r : Result T E) (f : FeedState) (text : List ℕ) (s : LinesState)
    → HoldsNoLineFeed f.held → text ≡ f.held → 0 < length text
    → OnOk r ((come : ByLines) → Stands f.lines come → Stands s (λ ls. come (line_of f.lines.number text ∷ ls)))
    → OnOk r (s.left + length text ≡ f.lines.left) → OnOk r ((whole : List ℕ) → HasCome f whole → HasEnded s whole)
ended_with_line (Ok _) f text s none is some taken left =
    λ whole h. record {
      come = λ ls. h.come (line_of f.lines.number text ∷ ls);
      batch = grind (
        arith,
        h.batch text,
        lines_of_last text (rw is none) some,
        numbered_next f.lines.number f.lines.left (f.lines.number + 1) s.left text [] refl left,
        numbered_none,
      );
      stands = taken h.come h.stands;
    }
ended_with_line (Err _) f text s none is some taken left = tt

pub ended_at_line : (f : FeedState) (bytes : List ℕ) → f.held ≡ [] → HasCome f bytes → HasEnded f.lines bytes
ended_at_line f bytes none h = grind (arith, lines_nil, numbered_none)

pub answers_batch : (region size : ℕ) (bytes : List ℕ) (batch : Batch (List JobEntry)) (come : Result RuledJobs
    Refusal)
    → region ≡ size → jobs_of bytes ≡ come → AnswersLines region batch come → IsBatch size bytes batch
answers_batch region size bytes batch come same e answers = search rules

-- ---- bytes that are held

pub is_nil : (xs : List ℕ) (n : ℕ) → length xs ≡ n → true ≡ n == 0 → xs ≡ []
is_nil [] n e is = refl
is_nil (x ∷ xs) n e is = absurd (grind (arith, nat_tests))

pub is_some : (xs : List ℕ) (n : ℕ) → length xs ≡ n → false ≡ n == 0 → 0 < length xs
is_some xs n e is = search rules

-- more bytes were held back, or none
pub open_kept : {T E : Type 0} (r : Result T E) (old more new : List ℕ) (left : ℕ) → HoldsNoLineFeed old
    → HoldsNoLineFeed more → length old + length more ≤ left → OnOk r (new ≡ old ++ more) → OnErr r (new ≡ old)
    → IsOpenLine new left
open_kept (Ok _) old more new left none more_none few is _ = grind (arith, no_feed_append, length-append)
open_kept (Err _) old more new left none more_none few _ is = search rules

pub ruleset of_end_open = (ended_at_line, is_nil, feeds_of_open)

pub ruleset of_end_line = (long_line_has_come, feeds_of_whole, feeds_of_joined)
