-- Lists that are kept for open IFs, as the stack below them changes.
use Rattle.std.proofs.Common.{◌≡◌, ◌∙◌, ℕ, ◌+◌, ◌-◌, ◌≤◌, Bool, false, refl, sym, ap, arith, Ok, List, [], ◌∷◌, ◌++◌}
use Rattle.std.proofs.Common.{length, take, drop, reverse, append_assoc, take-append-drop, get_or}
use Rattle.std.specs.Prelude.{nat_lt, ◌↔◌, IsTrue}
use Rattle.std.proofs.lemmas.List.{take-append-le, length-drop, length-take-le, length-take, reverse-append, take-take}
use Rattle.std.proofs.lemmas.List.{drop-take, drop-append-le, drop_all}
use Rattle.std.proofs.lemmas.Bool.Decides.{nat_tests}
use Rattle.std.proofs.lemmas.Grind.{common_steps}
use Rattle.vcode_base.specs.declared.kind.Kind.{Kind}
use Rattle.vcode_base.specs.declared.op.StackMove.{StackMove}
use Rattle.vcode_base.specs.declared.op.StackMove.TheVariants.{Copy}
use Rattle.verifier.specs.First.{count_below, stack_with_move, stack_after_move}
use Rattle.verifier.specs.Kept.{SharedList, whole_list, OpenIf, begin_list, kept_list, kept_lists, AreShared}
use Rattle.verifier.specs.Kept.{SharesAtMost}
use Rattle.verifier.specs.Walk.{State, state_with}
use Rattle.verifier.proofs.SameKinds.{are_same_kinds-Decides}

abbrev pub state_of : List Kind → List (List Kind) → State
state_of ks kept = record { kinds = ks; kept = kept }

-- ---- entries that no list shares

same_front : (k n : ℕ) (ks zs : List Kind) → k ≤ n → take n zs ≡ take n ks → take k zs ≡ take k ks
same_front k n ks zs few same = sym (take-take k n zs few) ∙ (ap (take k) same ∙ take-take k n ks few)

long_enough : (k : ℕ) (ks zs : List Kind) → k ≤ length ks → take k zs ≡ take k ks → k ≤ length zs
long_enough k ks zs enough same =
    let long : length (take k zs) ≡ length (take k ks) = ap length same in
    omega (arith, long, length-take k ks, length-take k zs)

-- the IFs see no change above the entries that the first of them shares
pub unseen : (ks zs : List Kind) (n : ℕ) (os : List OpenIf) → SharesAtMost n os → take n zs ≡ take n ks
    → AreShared ks os → (kept_lists zs os ≡ kept_lists ks os) × AreShared zs os
unseen ks zs n [] few same shared = (refl, tt)
unseen ks zs n (o ∷ os) few same shared =
    let front = same_front o.begin.shared n ks zs few same in
    (rw front, (long_enough o.begin.shared ks zs shared.0 front, rw front shared.1))

-- entries on top
pub on_top : (ks xs : List Kind) (os : List OpenIf) → AreShared ks os
    → (kept_lists (ks ++ xs) os ≡ kept_lists ks os) × AreShared (ks ++ xs) os
on_top ks xs [] shared = (refl, tt)
on_top ks xs (o ∷ os) shared =
    unseen ks (ks ++ xs) (length ks) (o ∷ os) shared.0 (take-append-le (length ks) ks xs (omega arith)) shared

-- the lowest entries of a list are those that it shares
front_of_whole : (ks : List Kind) (list : SharedList) (n : ℕ) → n ≤ list.shared → n ≤ length ks
    → take n (whole_list ks list) ≡ take n ks
front_of_whole ks list n few within =
    let low = take-take n list.shared ks few in
    take-append-le n (take list.shared ks) list.above (long_enough n ks (take list.shared ks) within low) ∙ low

-- ---- the list with which an IF began

pub taken_over : (ks chunk above now : List Kind) (s : ℕ) (old : SharedList)
    → record { shared = s; above = above } ≡ old → 32 ≤ s → chunk ≡ take 32 (drop (s - 32) ks) → now ≡ chunk ++ above
    → take (s - 32) ks ++ now ≡ whole_list ks old
taken_over ks chunk above now s old is enough piece e =
    let back : s - 32 + 32 ≡ s = omega arith in
    let high = drop-take (s - 32) 32 ks in
    let low = take-take (s - 32) s ks (omega arith) in
    let whole = take-append-drop (s - 32) (take s ks) in grind (arith, back, high, low, whole, append_assoc)

-- ---- the first IF takes entries over

first_of : (rest : List OpenIf) (o : OpenIf) → reverse (rest ++ o ∷ []) ≡ o ∷ reverse rest
first_of rest o = reverse-append rest (o ∷ [])

pub first_shares_at_most : (count : ℕ) (items seen ifs : List OpenIf) (o : OpenIf) → seen ≡ items
    → reverse items ≡ ifs → 1 ≤ length seen → o ≡ get_or seen (length seen - 1) o
    → (o.begin.shared ≤ count) ↔ SharesAtMost count ifs
first_shares_at_most count items seen ifs o shown is some last = grind (arith, common_steps)

pub first_shares : (ks : List Kind) (items rest : List OpenIf) (o : OpenIf) → items ≡ rest ++ o ∷ []
    → AreShared ks (reverse items) → o.begin.shared ≤ length ks
first_shares ks items rest o is shared =
    let all = rw (is, first_of rest o) at shared in all.0

pub first_takes : (ks : List Kind) (items rest news : List OpenIf) (old new : OpenIf) → items ≡ rest ++ old ∷ []
    → news ≡ rest ++ new ∷ [] → AreShared ks (reverse items) → begin_list ks new ≡ begin_list ks old
    → new.kept ≡ old.kept → new.begin.shared ≤ old.begin.shared
    → (kept_lists ks (reverse news) ≡ kept_lists ks (reverse items)) × AreShared ks (reverse news)
first_takes ks items rest news old new is now shared same kept fewer =
    let had = rw (is, first_of rest old) at shared in
    rw (now, is, first_of rest new, first_of rest old, same, kept) (refl, (omega (arith, had.0, fewer), had.1))

pub first_below : (len : ℕ) (rest news : List OpenIf) (new : OpenIf) → news ≡ rest ++ new ∷ []
    → new.begin.shared ≤ len → SharesAtMost len (reverse news)
first_below len rest news new now few = rw (now, first_of rest new) few

-- ---- the parts of an IF

drop_front : (n : ℕ) (ks xs : List Kind) → n ≤ length ks → drop n (take n ks ++ xs) ≡ xs
drop_front n ks xs within =
    let long = length-take-le n ks within in
    drop-append-le n (take n ks) xs (omega (arith, long))
    ∙ ap (λ (zs : List Kind). zs ++ xs) (drop_all n (take n ks) (omega (arith, long)))

-- two lists that share entries are the same exactly if what follows these is
same_wholes : (base zs : List Kind) (more less : SharedList) → zs ≡ whole_list base more
    → less.shared ≤ more.shared → less.shared ≤ length base
    → (drop less.shared zs ≡ less.above) ↔ (zs ≡ whole_list base less)
same_wholes base zs more less is few within =
    let n = less.shared in
    let front : take n zs ≡ take n base = ap (take n) is ∙ front_of_whole base more n few within in (
      λ above. sym (take-append-drop n zs) ∙ (λ i. front i ++ above i),
      λ same. ap (drop n) same ∙ drop_front n base less.above within,
    )

-- both parts of an IF, with entries that become those of the list that is kept or of what the second part ends with
module _ (ks base zs : List Kind) (first : OpenIf) (lists : SharedList × SharedList) (n : ℕ) (end : SharedList)
    (same : Bool) (are : lists ≡ (first.begin, first.kept)) (within : first.begin.shared ≤ length ks)
    (restored : base ≡ whole_list ks lists.0) (cut : n ≡ lists.0.shared)
    (is : end ≡ record { shared = n; above = drop n ks }) where
  abbrev shared : ℕ
  shared = first.begin.shared

  front : take shared (whole_list ks first.begin) ≡ take shared ks
  front = front_of_whole ks first.begin shared (omega arith) within

  end_is : whole_list base end ≡ ks
  end_is = rw (is, cut, restored, are, front) (take-append-drop shared ks)

  end_within : end.shared ≤ length base
  end_within = rw (is, cut, restored, are) (long_enough shared ks (whole_list ks first.begin) within front)

  kept_is : whole_list base lists.1 ≡ kept_list ks first
  kept_is = rw (restored, are) refl

  -- the test of what is kept, after the other part's end
  pub kept_tested : zs ≡ whole_list base end → lists.1.shared ≤ end.shared
      → IsTrue same ↔ (drop lists.1.shared zs ≡ lists.1.above)
      → (IsTrue same ↔ (kept_list ks first ≡ ks)) × (zs ≡ ks)
  kept_tested now few tested =
      let wholes = same_wholes base zs end lists.1 now few (omega (arith, few, end_within)) in
      (grind (arith, wholes, tested, end_is, kept_is), now ∙ end_is)

  -- the other way round
  pub end_tested : zs ≡ whole_list base lists.1 → end.shared ≤ lists.1.shared
      → IsTrue same ↔ (drop end.shared zs ≡ end.above)
      → (IsTrue same ↔ (kept_list ks first ≡ ks)) × (IsTrue same → zs ≡ ks)
  end_tested now few tested =
      let wholes = same_wholes base zs lists.1 end now few end_within in
      (grind (arith, wholes, tested, end_is, kept_is), grind (arith, wholes, tested, end_is, kept_is))

-- ---- instructions that take and give entries

pub not_fewer : (ks takes : List Kind) → drop (length ks - length takes) ks ≡ takes
    → nat_lt (length ks) (length takes) ≡ false
not_fewer ks takes same =
    let long : length takes ≡ length ks - (length ks - length takes) =
    sym (ap length same) ∙ length-drop (length ks - length takes) ks in
    grind (arith, nat_tests, long)

pub ruleset same_tops = (are_same_kinds-Decides, not_fewer, nat_tests)

-- ---- motions

-- the lower ones again
pub copied : (n i : ℕ) (ks : List Kind) → ks ++ take i (drop n ks) ≡ stack_with_move Copy n i ks
copied n i ks =
    let top = take-append-drop i (drop n ks) in
    let whole = take-append-drop n ks in grind (arith, top, whole, append_assoc)

pub moved : (motion : StackMove) (i j line : ℕ) (old new : State) (n : ℕ) → i + j ≤ length old.kinds
    → n ≡ count_below (i + j) old.kinds → new ≡ state_of (stack_with_move motion n i old.kinds) old.kept
    → state_with old.kept (stack_after_move motion i j line old.kinds) ≡ Ok new
unfolding stack_after_move
moved motion i j line old new n enough place e = grind (arith, nat_tests)
