-- Which reports have an entry at a place, and which faults are answered to the others.
use Rattle.std.proofs.Common.{◌≡◌, ◌≢◌, ◌≤◌, ◌+◌, ◌-◌, inl, inr, ℕ, List, ◌∷◌, length}
use Rattle.std.proofs.Common.{drop, refl, ap, arith, Option, Some, None, Result, Ok, Err}
use Rattle.std.proofs.lemmas.List.{append_cancel_left, get_or-drop, length-append, length-drop}
use Rattle.std.specs.Prelude.{MatchOption, MatchResult, option_map}
use Rattle.memchr.specs.Find.{FindsNeedle, OccursAt}
use Rattle.report_splitter.specs.declared.fault.CutFault.{CutFault}
use Rattle.report_splitter.specs.declared.fault.CutFault.TheVariants.{BrokenOff}
use Rattle.report_splitter.specs.Answers.{BreaksOff, HasEntry, IsFaultOf}
use Rattle.report_splitter.specs.Fronts.{HasFeed, HasLine}

-- ---- the first place of a needle

abbrev pub IsFirstAt : List ℕ → List ℕ → ℕ → Type 0
IsFirstAt rest next at =
    (k : ℕ) × (at ≡ k + 1) × OccursAt rest next k × ((j : ℕ) → OccursAt rest next j → k ≤ j)

pub first_end : (rest next : List ℕ) (r : Option ℕ) → FindsNeedle rest next 0 r
    → MatchOption (option_map (λ k. k + 1) r) ((k : ℕ) → OccursAt rest next k → ⊥) (λ at. IsFirstAt rest next at)
first_end rest next None f = λ k o. f k (omega arith) (omega (arith, o.fits)) o
first_end rest next (Some k) f = (k, refl, f.1, λ j o. grind (arith, f.0.before j))

feed_earlier : (text : List ℕ) (i j : ℕ) → i ≤ j → HasFeed (drop j text) → HasFeed (drop i text)
feed_earlier text i j le h = (j - i + h.0, grind (arith, length-drop), grind (arith, get_or-drop))

-- what is cut at the first place of a line that begins with a head
pub cut_line : {X : Type 0} (rest next head : List ℕ) (at : ℕ) (r : Result X CutFault) → next ≡ 10 ∷ head
    → IsFirstAt rest next at → MatchResult r (λ _. HasFeed (drop at rest)) (λ fault. (fault
    ≡ BrokenOff) × (HasFeed (drop at rest) → ⊥))
    → MatchResult r (λ _. HasLine head rest) (λ fault. (fault ≡ BrokenOff) × (HasLine head rest → ⊥))
cut_line rest next head at (Ok x) e first feed = grind arith
cut_line rest next head at (Err fault) e first none = (
  none.0,
  λ line. none.1 (feed_earlier rest at (line.at + 1) (grind (arith, first.3 line.at)) line.feed),
)

-- ---- what that says of a report

pub entry_or_broken : (head next report : List ℕ) → HasEntry head next report → BreaksOff head next report → ⊥
entry_or_broken head next report entry (inl front) =
    grind (arith, length-append, ap length front.1, ap length entry.parts, entry.line.begins.fits)
entry_or_broken head next report entry (inr broken) = grind (arith, append_cancel_left head entry.rest broken.0)

pub entry_answer : {X : Type 0} (head next report : List ℕ) (r : Result X CutFault) → HasEntry head next report
    → MatchResult r (λ _. Unit {0}) (λ fault. fault ≢ BrokenOff)
    → MatchResult r (λ _. HasEntry head next report) (λ fault. IsFaultOf head next report fault)
entry_answer head next report r entry not_broken = grind (arith, entry_or_broken head next report entry)
