-- The place of the first function of a name, and the callee of a CALL.
use Rattle.std.proofs.lemmas.Grind.{common_steps}
use Rattle.std.proofs.Common.{◌≡◌, ◌∙◌, ℕ, ◌+◌, ◌<◌, ◌≤◌, Bool, true, List, [], ◌∷◌, ◌++◌, length, take, drop, get_or}
use Rattle.std.proofs.Common.{Bor, Option, Some, None, refl, ap, sym, arith}
use Rattle.std.specs.BTreeMap.{BTreeMap, get_by, UpdatesBy}
use Rattle.std.specs.Bool.{Decides, then_some}
use Rattle.std.specs.Cmp.Lexicographic.{slice_cmp}
use Rattle.std.specs.Ordering.{nat_cmp}
use Rattle.std.specs.Prelude.{map, position, nat_lt, option_map, unwrap_or, IfSome}
use Rattle.std.specs.List.{position_from, position_or_len, slice_get}
use Rattle.std.specs.Str.{bytes_eq}
use Rattle.std.proofs.lemmas.Bool.{false≢true}
use Rattle.std.proofs.lemmas.Bool.Decides.{Decides-eqb, nat_tests}
use Rattle.std.proofs.lemmas.List.{drop_more, map-append, take_all, take_more}
use Rattle.std.proofs.lemmas.List.Quantifiers.{position-Some}
use Rattle.std.proofs.lemmas.List.Sums.{fails_before_first}
use Rattle.std.proofs.lemmas.Map.Text.{btree_map_updates_str}
use Rattle.std.proofs.lemmas.Option.{slice_get-map, slice_get_within, slice_get-get_or, get_or_from_slice_get}
use Rattle.std.proofs.lemmas.Option.{slice_get_cases}
use Rattle.std.proofs.lemmas.Slice.Eq.{slice_eq-Decides}
use Rattle.vcode_base.specs.declared.instr.Instr.TheVariants.{Call}
use Rattle.vcode_reader.specs.declared.line.CodeItem.{CodeItem}
use Rattle.vcode_reader.specs.Callees.{called_by, callee_of, callees_of, callee_in, callee_at, EachCallIsFound}
use Rattle.vcode_reader.specs.Programs.{held_callee, held_callees}
use Rattle.vcode_reader.specs.Targets.{target_in}
use Rattle.vcode_reader.specs.Trees.{CodeLine, Function, Item, instruction_line, lines_of}
use Rattle.vcode_reader.proofs.Pooling.{map_more}

-- the callees of a function
abbrev entry_of : List Function → Function → List (Option ℕ)
entry_of fs f = map (λ x. callee_of fs x.item) (lines_of f)

-- as they are held
abbrev pub held_entry : List Function → Function → List ℕ
held_entry fs f = map (held_callee fs) (lines_of f)

-- a map has the first place, from a place on, of each name
abbrev pub Finds : List Function → ℕ → BTreeMap (Bor (List ℕ)) ℕ → Type 0
Finds fs place m = (name : List ℕ) →
    get_by (λ k. slice_cmp nat_cmp name k.now) m ≡ position_from (λ f. bytes_eq f.name name) place (drop place fs)

-- the function before is added
pub finds_more : (fs : List Function) (place : ℕ) (f : Function) (bs : List ℕ) (m n : BTreeMap (Bor (List ℕ)) ℕ) →
    place < length fs → get_or fs place f ≡ f → bs ≡ f.name →
    UpdatesBy (λ x y. slice_cmp nat_cmp x.now y.now) (λ k. slice_cmp nat_cmp bs k.now) m n (Some place) →
    Finds fs (place + 1) m → Finds fs place n
finds_more fs place f bs m n lt at same updates found = grind (arith, nat_tests, btree_map_updates_str, drop_more)

-- the place of the first function of a name, or else the place past the last
abbrev pub place_of : List Function → Option (List ℕ) → ℕ
place_of fs None = length fs
place_of fs (Some name) = unwrap_or (position (λ f. bytes_eq f.name name) fs) (length fs)

place_is : (fs : List Function) (i : CodeItem Item) → place_of fs (called_by i) ≡ unwrap_or (callee_of fs i) (length fs)
place_is fs i = grind arith

-- the callee of one line more
pub callee_more : (fs : List Function) (lines : List CodeLine) (i k : ℕ) (called : Option (List ℕ)) (old new : List ℕ) →
    i < length lines → IfSome (slice_get lines i) (λ x. called ≡ called_by x.item) → k ≡ place_of fs called →
    old ≡ map (held_callee fs) (take i lines) → new ≡ old ++ k ∷ [] →
    new ≡ map (held_callee fs) (take (i + 1) lines)
callee_more fs lines i k called old new lt calls is before pushed =
    grind (arith, common_steps, slice_get_cases, map_more, place_is)

-- the callees of one function more
pub callees_more : (fs : List Function) (i : ℕ) (f : Function) (old new : List (List ℕ)) (callees : List ℕ) →
    i < length fs → f ≡ get_or fs i f → old ≡ map (held_entry fs) (take i fs) → callees ≡ held_entry fs f →
    new ≡ old ++ callees ∷ [] → new ≡ map (held_entry fs) (take (i + 1) fs)
callees_more fs i f old new callees lt at before same pushed = grind (arith, common_steps, take_more, map-append)

pub callees_all : (fs : List Function) (i : ℕ) (found : List (List ℕ)) → length fs ≤ i →
    found ≡ map (held_entry fs) (take i fs) → found ≡ held_callees fs
unfolding held_callees
callees_all fs i found past same = same ∙ ap (map (held_entry fs)) (take_all i fs past)

-- ---- the callees that are held

-- the callee that is held as this place
abbrev pub among : List Function → ℕ → Option ℕ
among fs k = then_some (nat_lt k (length fs)) k

map_twice : {A B C : Type 0} (g : B → C) (h : A → B) (f : A → C) → ((x : A) → g (h x) ≡ f x) → (xs : List A) →
    map g (map h xs) ≡ map f xs
map_twice g h f e [] = refl
map_twice g h f e (x ∷ xs) = grind (arith, nat_tests, map_twice g h f e xs)

module _ (fs : List Function) (held : List (List ℕ)) (function place : ℕ) (e : held ≡ held_callees fs) where
  in_function : (o : Option (List ℕ)) → slice_get held function ≡ o →
      callee_at fs function place ≡ callee_in (option_map (map (among fs)) o) place
  unfolding callees_of held_callees
  in_function o at = grind (arith, nat_tests, map_twice, slice_get-map)

  pub no_function : slice_get held function ≡ None → callee_at fs function place ≡ None
  no_function at = in_function None at

  pub in_line : (callees : List ℕ) (o : Option ℕ) → slice_get held function ≡ Some callees →
      slice_get callees place ≡ o → callee_at fs function place ≡ target_in (option_map (among fs) o)
  in_line callees o at on = grind (arith, nat_tests, in_function, slice_get-map)

-- ---- a function that a CALL names

same_name : (xs ys : List ℕ) → Decides (bytes_eq xs ys) (xs ≡ ys)
same_name xs ys = slice_eq-Decides Decides-eqb xs ys _ refl

abbrev is_named : List ℕ → Function → Bool
is_named name f = bytes_eq f.name name

-- what passes has a first place
has_first : {A : Type 0} (p : A → Bool) (xs : List A) (k : ℕ) (x : A) → slice_get xs k ≡ Some x → p x ≡ true →
    position p xs ≡ Some (position_or_len p xs)
has_first p xs k x h t =
    let within = slice_get_within xs k x h in
    let here = get_or_from_slice_get xs k x x h in
    grind (arith, nat_tests, fails_before_first p xs k x)

callee_is : (fs : List Function) (function place number : ℕ) (f : Function) (name : List ℕ) →
    slice_get fs function ≡ Some f → slice_get (lines_of f) place ≡ Some (instruction_line (Call name) number) →
    callee_at fs function place ≡ position (is_named name) fs
unfolding callees_of
callee_is fs function place number f name hf hx = grind (arith, nat_tests, slice_get-map)

pub each_call_is_found : EachCallIsFound
each_call_is_found fs function place number called f g hf hx hg =
    let p = is_named g.name in
    let n = position_or_len p fs in
    let at = has_first p fs called g hg ((same_name g.name g.name).1 refl) in
    let first = position-Some p fs n g at in (
      n,
      callee_is fs function place number f g.name hf hx ∙ at,
      (
        (get_or fs n g, slice_get-get_or fs n g first.0, (same_name _ _).0 first.1),
        λ k h lt e same. false≢true
            (sym (first.2 k lt) ∙ (ap p (get_or_from_slice_get fs k h g e) ∙ (same_name h.name g.name).1 same)),
      ),
    )
