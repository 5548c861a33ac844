-- Where the tail of an entry ends in a text, and what is cut there.
use Rattle.std.proofs.Common.{◌≡◌, ◌<◌, ◌≤◌, ◌+◌, ◌-◌, ℕ, zero, suc, List, ◌∷◌, ◌++◌, length, get_or, take, drop}
use Rattle.std.proofs.Common.{sym, ap, ◌∙◌, arith, ⊎_elim, Option, Some, None, Result}
use Rattle.std.proofs.lemmas.List.{get_or-take, get_or_append_left, get_or-append-add, get_or_push, length-take}
use Rattle.std.proofs.lemmas.List.{length-append, take_all, take_at, take-take, drop_at, drop-take, length_push}
use Rattle.std.proofs.lemmas.List.{take-append-drop, take-append-le, append_cancel_left}
use Rattle.std.proofs.lemmas.Bool.{cases_lt}
use Rattle.std.specs.Prelude.{IfSome, MatchResult, option_map}
use Rattle.memchr.specs.Find.{FindsNeedle, NoneBefore, Nowhere, OccursAt}
use Rattle.report_splitter.specs.declared.fault.CutFault.{CutFault}
use Rattle.report_splitter.specs.declared.fault.CutFault.TheVariants.{BrokenOff}
use Rattle.report_splitter.specs.Fronts.{HasFeed, IsTail}
use denote.Ref.{Bor}

-- the needle of a tail
abbrev needle : List ℕ → List ℕ
needle head = 10 ∷ head

module _ (tail head more : List ℕ) (t : IsTail tail head) where
  abbrev Whole : List ℕ
  Whole = tail ++ (head ++ more)

  pub tail_long : 0 < length tail
  tail_long = grind (arith, length_push)

  last_byte : get_or tail (length tail - 1) 0 ≡ 10
  last_byte = grind (arith, length_push, get_or_push)

  module _ (n : ℕ) (text : List ℕ) (is : text ≡ take n Whole) where
    below : (i : ℕ) → i < length text → get_or text i 0 ≡ get_or Whole i 0
    below i l = grind (arith, length-take, get_or-take)

    in_tail : (i : ℕ) → i < length text → i < length tail → get_or text i 0 ≡ get_or tail i 0
    in_tail i l m = grind (arith, below, get_or_append_left)

    in_head : (j : ℕ) → j < length head → length tail + j < length text → get_or text (length tail + j) 0
        ≡ get_or head j 0
    in_head j l m = grind (arith, below, get_or-append-add, get_or_append_left)

    -- the head follows the tail's last LF, if the text reaches so far
    at_end : length tail + length head ≤ length text → OccursAt text (needle head) (length tail - 1)
    at_end fits = record { fits = omega (arith, tail_long); reads = reads }
      where
        reads : (j : ℕ) → j < length (needle head) → get_or text (length tail - 1 + j) 0 ≡ get_or (needle head) j 0
        reads zero l = grind (arith, in_tail, tail_long, last_byte)
        reads (suc j) l =
            let here : length tail - 1 + suc j ≡ length tail + j = omega (arith, tail_long) in
            grind (arith, here, in_head j)

    -- it follows no LF before
    not_before : (k : ℕ) → OccursAt text (needle head) k → k + 1 < length tail → ⊥
    not_before k o early =
        ⊎_elim (λ l. over (length tail - 2 - k) (omega arith) l) within (cases_lt (length tail - 2 - k) (length head))
      where
        over : (j : ℕ) → k + suc j ≡ length tail - 1 → j < length head → ⊥
        over j at l = t.one_line j 0 l (grind (arith, o.reads (suc j), o.fits, in_tail (k + suc j), last_byte))

        within : length head ≤ length tail - 2 - k → ⊥
        within le = t.no_next k record { fits = omega arith; reads = grind (arith, in_tail, o.reads, o.fits) }

    -- nor after the first such LF
    not_after : (k : ℕ) → OccursAt text (needle head) k → Nowhere (OccursAt text (needle head)) 0 k
        → length tail ≤ k → ⊥
    not_after k o before late = grind (arith, tail_long, at_end, before (length tail - 1))

    pub found_at : (k : ℕ) → NoneBefore (OccursAt text (needle head)) 0 (length text + 1) k
        × OccursAt text (needle head) k → (k + 1 ≡ length tail) × (length tail ≤ length text)
    found_at k f = grind (arith, not_before k f.1, not_after k f.1 f.0.before)

    pub found_nowhere : Nowhere (OccursAt text (needle head)) 0 (length text + 1)
        → length text < length tail + length head
    found_nowhere none = grind (arith, none (length tail - 1), at_end)

    -- what is cut there
    pub cut_tail : length tail ≤ length text → take (length tail) text ≡ tail
    cut_tail le = grind (arith, length-take, take-take, take_at)

    pub cut_rest : length tail ≤ length text → drop (length tail) text ≡ take (n - length tail) (head ++ more)
    cut_rest le =
        let far : n ≡ length tail + (n - length tail) = omega (arith, ap length is, length-take n Whole) in
        grind (arith, drop-take (length tail) (n - length tail) Whole, drop_at)

module _ (rest next : List ℕ) where
  abbrev Found : Option ℕ → Type 0
  Found r = FindsNeedle rest next 0 r

  -- what is answered of a front of such a text
  pub end_in_front : (n : ℕ) (tail head more : List ℕ) (r : Option ℕ) → Found r → IsTail tail head → next ≡ 10 ∷ head
      → rest ≡ take n (tail ++ (head ++ more)) → IfSome (option_map (λ k. k + 1) r) (λ at. (at ≡ length tail)
      × (at ≤ length rest))
  end_in_front n tail head more None f t e is = tt
  end_in_front n tail head more (Some k) f t e is = grind (arith, found_at tail head more t n rest is k (rw e at f))

  -- and of all of it
  pub end_in_whole : (tail head more : List ℕ) (r : Option ℕ) → Found r → IsTail tail head → next ≡ 10 ∷ head
      → rest ≡ tail ++ (head ++ more) → option_map (λ k. k + 1) r ≡ Some (length tail)
  end_in_whole tail head more r f t e is = by r (rw e at f)
    where
      all : rest ≡ take (length rest) (tail ++ (head ++ more))
      all = grind (arith, take_all)

      by : (q : Option ℕ) → FindsNeedle rest (needle head) 0 q → option_map (λ k. k + 1) q ≡ Some (length tail)
      by None g = absurd (grind (arith, found_nowhere tail head more t (length rest) rest all g, length-append))
      by (Some k) g = ap Some (found_at tail head more t (length rest) rest all k g).0

-- ---- what is cut at that place

module _ (text : List ℕ) (at : ℕ) (tail head more : List ℕ) where
  abbrev CutAt : Result (Bor (List ℕ) × Bor (List ℕ)) CutFault → Type 0
  CutAt r = MatchResult r (λ x. (x.0.now ≡ take at text) × (x.1.now ≡ drop at text) × HasFeed (drop at text))
      (λ fault. (fault ≡ BrokenOff) × (HasFeed (drop at text) → ⊥))

  pub cut_of_front : (n : ℕ) (r : Result (Bor (List ℕ) × Bor (List ℕ)) CutFault) → CutAt r → IsTail tail head
      → text ≡ take n (tail ++ (head ++ more)) → (at ≡ length tail) × (at ≤ length text)
      → MatchResult r (λ x. (x.0.now ≡ tail) × (x.1.now ≡ take (n - length tail) (head ++ more)))
      (λ fault. fault ≡ BrokenOff)
  cut_of_front n r h t is p = grind (arith, cut_tail, cut_rest)

  pub cut_of_whole : (r : Result (Bor (List ℕ) × Bor (List ℕ)) CutFault) → CutAt r → HasFeed (head ++ more)
      → text ≡ tail ++ (head ++ more) → at ≡ length tail
      → MatchResult r (λ x. (x.0.now ≡ tail) × (x.1.now ≡ head ++ more)) (λ _. ⊥)
  cut_of_whole r h feed is p = grind (arith, take_at, drop_at)

-- ---- after the head of an entry

pub take_past : (n : ℕ) (p q : List ℕ) → length p ≤ n → take n (p ++ q) ≡ p ++ take (n - length p) q
take_past n p q le =
    let far : n ≡ length p + (n - length p) = omega arith in
    grind (
      arith,
      take-append-drop (length p) (take n (p ++ q)),
      take-take (length p) n (p ++ q),
      take_at,
      drop-take (length p) (n - length p) (p ++ q),
      drop_at,
    )

-- what follows the head is a front of what follows it in the whole
pub rest_of_front : (n : ℕ) (text head rest more : List ℕ) → text ≡ head ++ rest → text ≡ take n (head ++ more)
    → rest ≡ take (n - length head) more
rest_of_front n text head rest more is front =
    let long = length-take n (head ++ more) in
    append_cancel_left head rest (take (n - length head) more) (sym is ∙ front
    ∙ take_past n head more (omega (arith, ap length is, ap length front, length-append head rest)))

-- a front without the head is a front of the head
pub front_of_head : (n : ℕ) (text head more : List ℕ) → ((rest : List ℕ) → text ≡ head ++ rest → ⊥) → text
    ≡ take n (head ++ more)
    → text ≡ take n head
front_of_head n text head more none is = grind (arith, take-append-le, take_past, cases_lt)
