-- The words of lent lists.
use Rattle.std.proofs.Common.{◌≡◌, ℕ, ℤ, ◌+◌, ◌<◌, ◌≤◌, List, [], length, take, get_or, max, sym, arith, subst}
use Rattle.std.specs.Borrow.{Bor}
use Rattle.std.proofs.lemmas.List.{take-map, length-map, get_or-map}
use Rattle.std.proofs.lemmas.List.Elements.{All-more, All-weaker}
use Rattle.job_steps.specs.Buffers.{HaveAtMost}
use Rattle.vcode_base.specs.Operands.{contents}

-- one more list, and none has more words than the greater bound
pub one_more : (i old new : ℕ) (refs : List (Bor (List ℤ))) (d : Bor (List ℤ))
    → i < length refs → HaveAtMost old (contents (take i refs))
    → new ≡ max old (length (get_or refs i d).now) → HaveAtMost new (contents (take (i + 1) refs))
one_more i old new refs d h front is =
    let now = λ (r : Bor (List ℤ)). r.now in
    let before : HaveAtMost new (take i (contents refs)) =
    subst (HaveAtMost new) (sym (take-map now i refs))
    (All-weaker (λ list. length list ≤ old) (λ list. length list ≤ new) (λ list k. omega arith)
    (contents (take i refs)) front) in
    let short : length (get_or refs i d).now ≤ new = omega arith in
    subst (HaveAtMost new) (take-map now (i + 1) refs)
    (All-more (λ list. length list ≤ new) (contents refs) i [] (omega (arith, length-map refs now)) before
    (subst (λ list. length list ≤ new) (sym (get_or-map now refs i d [] h)) short))
