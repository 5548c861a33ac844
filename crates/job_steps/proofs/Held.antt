-- The words that a stack holds, if entries with one tag have one value.
use Rattle.std.proofs.Common.{rules, ◌≡◌, ℕ, ◌+◌, ◌≤◌, Bool, true, false, cond, eqb, not, List, [], ◌∷◌, ◌++◌, length}
use Rattle.std.proofs.Common.{refl, sym, ap, subst, inl, inr, arith}
use Rattle.std.specs.Prelude.{All, ◌⊎◌, filter}
use Rattle.std.proofs.lemmas.List.Elements.{All-nil, All-head, All-tail, All-weaker, All-filter}
use Rattle.job_steps.specs.States.{Vector, StackEntry, has_tag, held_words}
use Rattle.job_steps.specs.Reached.{AreAlike}

-- one of the entries
abbrev pub Has : List StackEntry → StackEntry → Type 0
Has [] e = ⊥
Has (x ∷ xs) e = (x ≡ e) ⊎ Has xs e

pub has_itself : (xs : List StackEntry) → All (Has xs) xs
has_itself [] = All-nil (Has [])
has_itself (x ∷ xs) = grind (arith, (has_itself xs))

-- the entries of other tags
abbrev others : ℕ → List StackEntry → List StackEntry
others tag xs = filter (λ e. not (eqb e.tag tag)) xs

-- as long as the value of this tag
abbrev IsLong : ℕ → ℕ → StackEntry → Type 0
IsLong tag size e = e.tag ≡ tag → length e.value.words ≡ size

others_same : (tag : ℕ) (xs : List StackEntry) → has_tag tag xs ≡ false → others tag xs ≡ xs
others_same tag [] e = refl
others_same tag (x ∷ xs) e = grind (arith, (others_same tag xs))

has_others : (tag other : ℕ) (xs : List StackEntry) → eqb other tag ≡ false →
    has_tag other (others tag xs) ≡ has_tag other xs
has_others tag other [] d = refl
has_others tag other (x ∷ xs) d = grind (arith, (has_others tag other xs d))

-- a tag's value counts once
held_others : (tag size : ℕ) (xs : List StackEntry) → All (IsLong tag size) xs → has_tag tag xs ≡ true →
    held_words xs ≡ size + held_words (others tag xs)
held_others tag size [] long e = absurd (let h : false ≡ true = e in cc)
held_others tag size (x ∷ xs) long e =
    grind (arith, All-head, others_same, has_others, held_others tag size xs (All-tail (IsLong tag size) x xs long))

kept : (tag : ℕ) (xs : List StackEntry) (e : StackEntry) → eqb e.tag tag ≡ false → Has xs e → Has (others tag xs) e
kept tag [] e d h = absurd h
kept tag (x ∷ xs) e d h = grind (arith, (kept tag xs))

has_tagged : (xs : List StackEntry) (e : StackEntry) → Has xs e → has_tag e.tag xs ≡ true
has_tagged [] e h = absurd h
has_tagged (x ∷ xs) e h = grind (arith, (has_tagged xs))

untagged : (tag : ℕ) (xs : List StackEntry) → has_tag tag xs ≡ false → All (λ e. eqb e.tag tag ≡ false) xs
untagged tag [] h = All-nil (λ e. eqb e.tag tag ≡ false)
untagged tag (x ∷ xs) h = grind (arith, (untagged tag xs))

All-has : (P : StackEntry → Type 0) (xs : List StackEntry) (e : StackEntry) → All P xs → Has xs e → P e
All-has P [] e all h = absurd h
All-has P (x ∷ xs) e all (inl is) = subst P is (All-head P x xs all)
All-has P (x ∷ xs) e all (inr h) = All-has P xs e (All-tail P x xs all) h

abbrev pub Agree : List StackEntry → Type 0
Agree xs = All (λ x. All (AreAlike x) xs) xs

agree_others : (tag : ℕ) (xs : List StackEntry) → Agree xs → Agree (others tag xs)
agree_others tag xs agree =
    All-filter (λ (e : StackEntry). not (eqb e.tag tag)) (λ x. All (AreAlike x) (others tag xs)) xs
    (All-weaker (λ x. All (AreAlike x) xs) (λ x. All (AreAlike x) (others tag xs))
    (λ x h. All-filter (λ (e : StackEntry). not (eqb e.tag tag)) (AreAlike x) xs h) xs agree)

among_others : (tag : ℕ) (xs ys : List StackEntry) → All (λ e. eqb e.tag tag ≡ false) ys → All (Has xs) ys →
    All (Has (others tag xs)) ys
among_others tag xs [] p q = All-nil (Has (others tag xs))
among_others tag xs (y ∷ ys) p q =
    let rest = among_others tag xs ys (All-tail (λ e. eqb e.tag tag ≡ false) y ys p) (All-tail (Has xs) y ys q) in
    search (rules, kept)

among_chosen : (y : StackEntry) (ys xs : List StackEntry) → All (Has xs) (y ∷ ys) → Agree xs →
    ((zs : List StackEntry) → All (Has zs) ys → Agree zs → held_words ys ≤ held_words zs) → (b : Bool) →
    has_tag y.tag ys ≡ b → cond b 0 (length y.value.words) + held_words ys ≤ held_words xs
among_chosen y ys xs among agree later true none = omega (arith, later xs (All-tail (Has xs) y ys among) agree)
among_chosen y ys xs among agree later false none =
    let here : Has xs y = All-head (Has xs) y ys among in
    let long : All (IsLong y.tag (length y.value.words)) xs = All-weaker (AreAlike y)
    (IsLong y.tag (length y.value.words))
    (λ e alike. λ same. ap (λ (v : Vector). length v.words) (sym (alike (sym same)))) xs
    (All-has (λ x. All (AreAlike x) xs) xs y agree here) in
    let rest = among_others y.tag xs ys (untagged y.tag ys none) (All-tail (Has xs) y ys among) in
    let fewer : held_words ys ≤ held_words (others y.tag xs) = later (others y.tag xs) rest
    (agree_others y.tag xs agree) in
    let whole : held_words xs ≡ length y.value.words + held_words (others y.tag xs) = held_others y.tag
    (length y.value.words) xs long (has_tagged xs y here) in
    omega arith

-- Entries that are all among others hold no more than those.
pub held_among : (ys xs : List StackEntry) → All (Has xs) ys → Agree xs → held_words ys ≤ held_words xs
held_among [] xs among agree = omega arith
held_among (y ∷ ys) xs among agree = among_chosen y ys xs among agree (held_among ys) (has_tag y.tag ys) refl

-- the words of entries, each counted
abbrev pub total_words : List StackEntry → ℕ
total_words [] = 0
total_words (e ∷ es) = length e.value.words + total_words es

pub held_append : (xs ys : List StackEntry) → held_words (xs ++ ys) ≤ total_words xs + held_words ys
held_append [] ys = omega arith
held_append (x ∷ xs) ys = grind (arith, (held_append xs ys))
