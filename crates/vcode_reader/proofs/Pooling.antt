-- Lines whose lists and names lie in pools, one after another, and the least number of a line.
use Rattle.std.proofs.lemmas.Grind.{common_steps}
use Rattle.std.proofs.Common.{◌≡◌, ◌∙◌, ℕ, ℤ, ◌+◌, ◌^◌, ◌<◌, ◌≤◌, List, [], ◌∷◌, ◌++◌, length, take, Some, None, true}
use Rattle.std.proofs.Common.{false, zero, suc, refl, ap, sym, append_assoc, length-append, arith, get_or}
use Rattle.std.proofs.Math.Seq.{drop-append_seam, take-append_seam}
use Rattle.std.proofs.lemmas.Bool.Decides.{nat_tests}
use Rattle.std.proofs.lemmas.List.{append-nil, length-map, map-append, take_more}
use Rattle.std.proofs.lemmas.Option.{slice_get-map, slice_get_past, slice_get_read, slice_get_within}
use Rattle.std.proofs.lemmas.Option.{get_or_from_slice_get, none-some}
use Rattle.std.specs.List.{slice_get}
use Rattle.std.specs.Prelude.{map, nat_lt, min}
use Rattle.vcode_reader.specs.declared.line.CodeItem.{CodeItem}
use Rattle.vcode_reader.specs.Pools.{PooledLine, first_with, least_number, list_of, name_of, all_lists, all_names}
use Rattle.vcode_reader.specs.Pools.{pooled_item, pooled_line, pooled_lines, shown_item, shown_line, shown_lines}
use Rattle.vcode_reader.specs.Pools.{ArePooled, NumbersFit, least_with}
use Rattle.vcode_reader.specs.Trees.{Item, CodeLine, line_of}
use Rattle.std.proofs.Math.Nat.{min-eq_left, min-le_left, min-le_right}

-- ---- the least number of a line

-- no line has a lower number
abbrev pub AreFrom : ℕ → List CodeLine → Type 0
AreFrom n [] = Unit {0}
AreFrom n (x ∷ xs) = (n ≤ x.number) × AreFrom n xs

from_least : (m n : ℕ) (xs : List CodeLine) → m ≤ least_with n xs → (m ≤ n) × AreFrom m xs
unfolding least_with
from_least m n [] h = (h, tt)
from_least m n (x ∷ xs) h = grind (arith, nat_tests, min-le_left, min-le_right, from_least m (min n x.number) xs h)

pub are_from : (first : ℕ) (xs : List CodeLine) → first ≡ least_number xs → AreFrom first xs
unfolding least_number
are_from first xs e = grind (arith, nat_tests, from_least)

least_more : (n : ℕ) (xs : List CodeLine) (x : CodeLine) → least_with n (xs ++ x ∷ []) ≡ min (least_with n xs) x.number
unfolding least_with
least_more n [] x = refl
least_more n (y ∷ ys) x = least_more (min n y.number) ys x

-- one line more, which isn't before the first
pub least_then : (xs : List CodeLine) (x : CodeLine) (first first2 : ℕ) → first ≡ least_number xs →
    first2 ≡ first_with first (length xs) x.number → first2 ≤ x.number → first2 ≡ least_number (xs ++ x ∷ [])
unfolding least_number least_with
least_then xs x first first2 e h after = grind (arith, nat_tests, min-eq_left, least_more)

-- ---- lines whose lists and names lie in pools, one after another

-- an item is what its pooled form shows
item_back : (i : CodeItem Item) (p r ls : List ℤ) (q s ns : List ℕ) (l n : ℕ) → ls ≡ p ++ (list_of i ++ r) →
    ns ≡ q ++ (name_of i ++ s) → l ≡ length p → n ≡ length q → shown_item ls ns (pooled_item l n i) ≡ i
item_back i p r ls q s ns l n e f h k = grind (arith, nat_tests, drop-append_seam, take-append_seam)

-- lines are what their pooled form shows
pub lines_back : (first : ℕ) (xs : List CodeLine) (p ls : List ℤ) (q ns : List ℕ) (l n : ℕ) → AreFrom first xs →
    ls ≡ p ++ all_lists xs → ns ≡ q ++ all_names xs → l ≡ length p → n ≡ length q →
    shown_lines first ls ns (pooled_lines first l n xs) ≡ xs
unfolding shown_lines pooled_lines all_lists all_names
lines_back first [] p ls q ns l n from e f h k = refl
lines_back first (x ∷ xs) p ls q ns l n from e f h k =
    let back = item_back x.item p (all_lists xs) ls q (all_names xs) ns l n e f h k in
    grind (arith, length-append, append_assoc, lines_back first xs (p ++ list_of x.item) ls (q ++ name_of x.item) ns)

-- pools of these lines show them
module _ (first : ℕ) (ps : List PooledLine) (ls : List ℤ) (ns : List ℕ) (xs : List CodeLine)
    (least : first ≡ least_number xs) (e : ps ≡ pooled_lines first 0 0 xs) (f : ls ≡ all_lists xs)
    (g : ns ≡ all_names xs) where
  pub shown_are : shown_lines first ls ns ps ≡ xs
  shown_are =
      ap (shown_lines first ls ns) e
      ∙ lines_back first xs [] ls [] ns 0 0 (are_from first xs least) f g refl refl

  pub are_pooled : NumbersFit xs → ArePooled first ps ls ns
  are_pooled room = grind (arith, nat_tests, shown_are)

-- no line
pub none_pooled : (ps : List PooledLine) (ls : List ℤ) (ns : List ℕ) → ps ≡ [] → ls ≡ [] → ns ≡ [] →
    ArePooled 0 ps ls ns
unfolding pooled_lines all_lists all_names least_number
none_pooled ps ls ns e f g = are_pooled 0 ps ls ns [] refl e f g tt

pub none_shown : (first : ℕ) (ps : List PooledLine) (ls : List ℤ) (ns : List ℕ) → ps ≡ [] →
    shown_lines first ls ns ps ≡ []
unfolding shown_lines
none_shown first ps ls ns e = ap (shown_lines first ls ns) e

-- ---- one line more

pub lists_more : (xs : List CodeLine) (x : CodeLine) → all_lists (xs ++ x ∷ []) ≡ all_lists xs ++ list_of x.item
unfolding all_lists
lists_more [] x = append-nil (list_of x.item)
lists_more (y ∷ ys) x = grind (arith, nat_tests, append_assoc, lists_more ys x)

pub names_more : (xs : List CodeLine) (x : CodeLine) → all_names (xs ++ x ∷ []) ≡ all_names xs ++ name_of x.item
unfolding all_names
names_more [] x = append-nil (name_of x.item)
names_more (y ∷ ys) x = grind (arith, nat_tests, append_assoc, names_more ys x)

pub length-lists_more : (xs : List CodeLine) (x : CodeLine) →
    length (all_lists (xs ++ x ∷ [])) ≡ length (all_lists xs) + length (list_of x.item)
length-lists_more xs x = ap length (lists_more xs x) ∙ length-append (all_lists xs) (list_of x.item)

pub length-names_more : (xs : List CodeLine) (x : CodeLine) →
    length (all_names (xs ++ x ∷ [])) ≡ length (all_names xs) + length (name_of x.item)
length-names_more xs x = ap length (names_more xs x) ∙ length-append (all_names xs) (name_of x.item)

lines_more : (first : ℕ) (xs : List CodeLine) (x : CodeLine) (l n k m : ℕ) → k ≡ l + length (all_lists xs) →
    m ≡ n + length (all_names xs) →
    pooled_lines first l n (xs ++ x ∷ []) ≡ pooled_lines first l n xs ++ pooled_line first k m x ∷ []
unfolding pooled_lines all_lists all_names
lines_more first [] x l n k m e f = grind (arith, nat_tests)
lines_more first (y ∷ ys) x l n k m e f =
    grind (arith, length-append, lines_more first ys x (l + length (list_of y.item)) (n + length (name_of y.item)) k m)

-- the number of lines
pub shown_length : (first : ℕ) (ps : List PooledLine) (ls : List ℤ) (ns : List ℕ) →
    length ps ≡ length (shown_lines first ls ns ps)
unfolding shown_lines
shown_length first ps ls ns = sym (length-map ps (shown_line first ls ns))

-- the first number stays if there are lines
same_first : (first first2 number : ℕ) (xs : List CodeLine) → first2 ≡ first_with first (length xs) number →
    pooled_lines first 0 0 xs ≡ pooled_lines first2 0 0 xs
unfolding pooled_lines
same_first first first2 number xs h = grind (arith, common_steps)

numbers_more : (xs : List CodeLine) (x : CodeLine) → NumbersFit xs → x.number < 2 ^ 64 → NumbersFit (xs ++ x ∷ [])
numbers_more [] x h fits = (fits, tt)
numbers_more (y ∷ ys) x h fits = (h.0, numbers_more ys x h.1 fits)

-- the number of a line at a place
number_in : (xs : List CodeLine) (place : ℕ) (x : CodeLine) → NumbersFit xs → slice_get xs place ≡ Some x →
    x.number < 2 ^ 64
number_in [] place x h e = absurd (none-some x e)
number_in (y ∷ ys) zero x h e = grind arith
number_in (y ∷ ys) (suc place) x h e = number_in ys place x h.1 e

module _ (first first2 : ℕ) (ps ps2 : List PooledLine) (ls ls2 : List ℤ) (ns ns2 : List ℕ) (len : ℕ) (x : CodeLine)
    (held : ArePooled first ps ls ns) (long : len ≡ length ps) (begin : first2 ≡ first_with first len x.number)
    (after : first2 ≤ x.number) (e : ps2 ≡ ps ++ pooled_line first2 (length ls) (length ns) x ∷ [])
    (f : ls2 ≡ ls ++ list_of x.item) (g : ns2 ≡ ns ++ name_of x.item) where
  abbrev xs : List CodeLine
  xs = shown_lines first ls ns ps

  begins : first2 ≡ first_with first (length xs) x.number
  begins = begin ∙ ap (λ n. first_with first n x.number) (long ∙ shown_length first ps ls ns)

  least_now : first2 ≡ least_number (xs ++ x ∷ [])
  least_now = least_then xs x first first2 held.least begins after

  lines_then : ps2 ≡ pooled_lines first2 0 0 (xs ++ x ∷ [])
  lines_then =
      let at : length ls ≡ 0 + length (all_lists xs) = omega (arith, ap length held.lists) in
      let on : length ns ≡ 0 + length (all_names xs) = omega (arith, ap length held.names) in
      let same = same_first first first2 x.number xs begins in
      grind (arith, lines_more first2 xs x 0 0 (length ls) (length ns) at on)

  lists_then : ls2 ≡ all_lists (xs ++ x ∷ [])
  lists_then = f ∙ (ap (λ z. z ++ list_of x.item) held.lists ∙ sym (lists_more xs x))

  names_then : ns2 ≡ all_names (xs ++ x ∷ [])
  names_then = g ∙ (ap (λ z. z ++ name_of x.item) held.names ∙ sym (names_more xs x))

  pub pushed_shown : shown_lines first2 ls2 ns2 ps2 ≡ shown_lines first ls ns ps ++ x ∷ []
  pushed_shown = grind (arith, shown_are, least_now, lines_then, lists_more, names_more)

  pub pushed_pooled : x.number < 2 ^ 64 → ArePooled first2 ps2 ls2 ns2
  pushed_pooled fits =
      are_pooled first2 ps2 ls2 ns2 (xs ++ x ∷ []) least_now lines_then lists_then names_then
      (numbers_more xs x held.room fits)

-- the same pools
pub same_pooled : (first : ℕ) (ps ps2 : List PooledLine) (ls ls2 : List ℤ) (ns ns2 : List ℕ) → ps2 ≡ ps → ls2 ≡ ls →
    ns2 ≡ ns → ArePooled first ps ls ns → ArePooled first ps2 ls2 ns2
same_pooled first ps ps2 ls ls2 ns ns2 e f g held = rw (e, f, g) held

-- ---- the line at a place

pub got : {A : Type 0} (ps qs : List A) (place : ℕ) (p : A) → qs ≡ ps → true ≡ nat_lt place (length qs) →
    p ≡ get_or qs place p → slice_get ps place ≡ Some p
got ps qs place p e within is = grind (arith, nat_tests, slice_get_read)

pub not_got : {A : Type 0} (ps qs : List A) (place : ℕ) → qs ≡ ps → false ≡ nat_lt place (length qs) →
    slice_get ps place ≡ None
not_got ps qs place e past = grind (arith, nat_tests, slice_get_past)

pub line_there : (first : ℕ) (ps : List PooledLine) (ls : List ℤ) (ns : List ℕ) (place : ℕ) (p : PooledLine) →
    slice_get ps place ≡ Some p → slice_get (shown_lines first ls ns ps) place ≡ Some (shown_line first ls ns p)
unfolding shown_lines
line_there first ps ls ns place p e = grind (arith, nat_tests, slice_get-map)

pub number_there : (first : ℕ) (ps : List PooledLine) (ls : List ℤ) (ns : List ℕ) (place : ℕ) (p : PooledLine) →
    NumbersFit (shown_lines first ls ns ps) → slice_get ps place ≡ Some p → first + p.distance < 2 ^ 64
number_there first ps ls ns place p h e =
    number_in (shown_lines first ls ns ps) place (shown_line first ls ns p) h (line_there first ps ls ns place p e)

pub no_line_there : (first : ℕ) (ps : List PooledLine) (ls : List ℤ) (ns : List ℕ) (place : ℕ) →
    slice_get ps place ≡ None → slice_get (shown_lines first ls ns ps) place ≡ None
unfolding shown_lines
no_line_there first ps ls ns place e = grind (arith, nat_tests, slice_get-map)

pub shown_too : (first : ℕ) (ps : List PooledLine) (ls ms : List ℤ) (ns os : List ℕ) (place : ℕ) (p : PooledLine)
    (i : CodeItem Item) (all : List CodeLine) → ms ≡ ls → os ≡ ns → i ≡ shown_item ms os p.item →
    slice_get ps place ≡ Some p → shown_lines first ls ns ps ≡ all →
    let here : CodeLine = line_of i (first + p.distance) in Some here ≡ slice_get all place
shown_too first ps ls ms ns os place p i all e f is at same = grind (arith, nat_tests, line_there)

-- what is made of the lines up to a place, and of one line more
pub map_more : {A B : Type 0} (f : A → B) (xs : List A) (p : ℕ) (x : A) (old new : List B) → Some x ≡ slice_get xs p →
    old ≡ map f (take p xs) → new ≡ old ++ f x ∷ [] → new ≡ map f (take (p + 1) xs)
map_more f xs p x old new h before e =
    let within = slice_get_within xs p x (sym h) in
    let first = get_or_from_slice_get xs p x x (sym h) in
    rw (e, before, take_more xs p x within, map-append f (take p xs) (get_or xs p x ∷ []), first) refl
