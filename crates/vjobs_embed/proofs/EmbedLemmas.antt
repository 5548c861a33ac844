-- What a call leaves of a report that was written to memory.
use Rattle.std.proofs.Common.{◌≡◌, ◌≢◌, ◌<◌, ◌≤◌, ℕ, List, [], length, Some, Ok, refl, sym, ap, subst, ◌∙◌, arith, Bool}
use Rattle.std.proofs.Common.{true, false}
use Rattle.std.specs.Prelude.{nat_le, if◌then◌else◌}
use Rattle.std.proofs.lemmas.Bool.Decides.{nat_tests}
use Rattle.batch_front.specs.declared.status.Status.{Status}
use Rattle.batch_front.specs.declared.status.Status.TheVariants.{AllReturned, SomeNot, BatchRefused}
use Rattle.batch_front.specs.Exits.{exit_of}
use Rattle.batch_front.specs.Runs.{WritesReport}
use Rattle.vjobs_embed.specs.Calls.{Answer, delivered, too_long, written}

pub written_in_memory : (region : ℕ) (input bytes old new items : List ℕ) (status : Status)
    → WritesReport region (Some input) (Some old) (Some new) status → input ≡ bytes → old ≡ [] → new ≡ items
    → WritesReport region (Some bytes) (Some []) (Some items) status
written_in_memory region input bytes old new items status w e f g =
    subst (λ t. WritesReport region (Some bytes) (Some []) (Some t) status) g
    (subst (λ t. WritesReport region (Some bytes) (Some t) (Some new) status) f
    (subst (λ t. WritesReport region (Some t) (Some old) (Some new) status) e w))

pub exit_apart : (status : Status) → exit_of (Ok status) ≢ 3
exit_apart AllReturned e = omega arith
exit_apart SomeNot e = omega arith
exit_apart BatchRefused e = omega arith

not_true : (b : Bool) → (b ≡ true → ⊥) → b ≡ false
not_true true h = absurd (h refl)
not_true false h = refl

abbrev chosen : List ℕ → Status → List ℕ → Bool → Answer
chosen report status out fits = if fits then written report status out else too_long report out

pub delivered_long : (report out : List ℕ) (status : Status) → length out < length report
    → too_long report out ≡ delivered report status out
delivered_long report out status l =
    sym (ap (chosen report status out) (not_true (nat_le (length report) (length out))
    (λ e. grind (arith, nat_tests))))

pub delivered_short : (report out : List ℕ) (status : Status) → length report ≤ length out
    → written report status out ≡ delivered report status out
delivered_short report out status l =
    let fits : nat_le (length report) (length out) ≡ true = grind (arith, nat_tests) in
    sym (ap (chosen report status out) fits)

-- the same report and status
pub delivered_as : (report items of : List ℕ) (status is : Status) (out new : List ℕ) (result needed : ℕ)
    → record { status = result; needed = length report; out = new } ≡ delivered report status out → report
    ≡ items → items ≡ of
    → status ≡ is → needed ≡ length items → record { status = result; needed = needed; out = new } ≡ delivered of is out
delivered_as report items of status is out new result needed d e f g h =
    let long : needed ≡ length report = h ∙ ap length (sym e) in
    let first : Answer = record { status = result; needed = needed; out = new } in
    let second : first ≡ record { status = result; needed = length report; out = new } =
    ap (λ (n : ℕ). record { status = result; needed = n; out = new }) long in
    second ∙ d ∙ ap (λ (x : List ℕ). delivered x status out) (e ∙ f) ∙ ap (λ (s : Status). delivered of s out) g

-- what `deliver` needs
pub ruleset of_delivered = (delivered_long, delivered_short, exit_apart)
