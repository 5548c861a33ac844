-- Pooled lines with their targets.
use Rattle.std.proofs.lemmas.Bool.Decides.{nat_tests}
use Rattle.std.proofs.Common.{◌≡◌, ◌∙◌, ℕ, ℤ, suc, zero, ◌+◌, ◌<◌, ◌≤◌, List, [], ◌∷◌, ◌++◌, length, take, drop, Option}
use Rattle.std.proofs.Common.{Some, None, refl, ap, sym, length-append, arith, add-one, drop-cons, get_or, get_or-take}
use Rattle.std.proofs.Common.{set}
use Rattle.std.proofs.Math.Seq.{take-append_seam}
use Rattle.std.proofs.lemmas.List.{drop-set, drop_all, take-set, take-take}
use Rattle.std.proofs.lemmas.Option.{none-some, same_Some, slice_get-get_or}
use Rattle.std.specs.Prelude.{IfSome}
use Rattle.std.specs.List.{slice_get}
use Rattle.vcode_reader.specs.Callees.{called_by}
use Rattle.vcode_reader.specs.Pools.{PooledItem, PooledLine, least_number, list_of, name_of, all_lists, all_names}
use Rattle.vcode_reader.specs.Pools.{pooled_lines, shown_item, shown_line, shown_lines, ItemLiesIn, ArePooled}
use Rattle.vcode_reader.specs.Pools.{AreLinked, target_of, line_with_target, with_targets, waits_before, linked_lines}
use Rattle.vcode_reader.specs.Targets.{Jumps, first_of, others_of, jumps_before, jumps_from, target_in, target_at}
use Rattle.vcode_reader.specs.Targets.{targets_of}
use Rattle.vcode_reader.specs.Trees.{CodeLine}
use Rattle.vcode_reader.proofs.Pooling.{are_from, line_there, lines_back, shown_length}

-- ---- targets aren't shown

targets_unseen : (first : ℕ) (ls : List ℤ) (ns : List ℕ) (targets : List (Option ℕ)) (ps : List PooledLine) →
    shown_lines first ls ns (with_targets targets ps) ≡ shown_lines first ls ns ps
unfolding shown_lines with_targets
targets_unseen first ls ns targets [] = refl
targets_unseen first ls ns targets (p ∷ ps) = grind (arith, targets_unseen first ls ns (others_of targets) ps)

-- pools of these lines, with their targets, show them
module _ (first : ℕ) (ps : List PooledLine) (ls : List ℤ) (ns : List ℕ) (xs : List CodeLine)
    (least : first ≡ least_number xs) (e : ps ≡ linked_lines xs) (f : ls ≡ all_lists xs) (g : ns ≡ all_names xs) where
  pub linked_shown : shown_lines first ls ns ps ≡ xs
  unfolding linked_lines
  linked_shown = grind (arith, targets_unseen, are_from, lines_back first xs [] ls [] ns 0 0)

pub linked_again : (xs : List CodeLine) →
    shown_lines (least_number xs) (all_lists xs) (all_names xs) (linked_lines xs) ≡ xs
linked_again xs = grind (arith, nat_tests, linked_shown)

-- Pooled lines that were given their targets, in a slice of a vector of this length.
module _ (first : ℕ) (ps slice new ps2 : List PooledLine) (ls ls2 : List ℤ) (ns ns2 : List ℕ) (len : ℕ)
    (held : ArePooled first ps ls ns) (same : slice ≡ ps) (long : len ≡ length new)
    (done : new ≡ with_targets (targets_of (shown_lines first ls ns slice)) slice)
    (e : ps2 ≡ take len (new ++ drop (length new) ps)) (f : ls2 ≡ ls) (g : ns2 ≡ ns) where
  pub now_linked : AreLinked first ps2 ls2 ns2
  unfolding linked_lines
  now_linked = grind (arith, nat_tests, linked_shown, take-append_seam)

  pub now_shown : shown_lines first ls2 ns2 ps2 ≡ shown_lines first ls ns ps
  unfolding linked_lines
  now_shown = grind (arith, nat_tests, targets_unseen, lines_back, are_from, take-append_seam)

-- ---- each item's list and name lie in the pools

pub lies_too : (i : PooledItem) (ls ms : List ℤ) (ns os : List ℕ) → ms ≡ ls → os ≡ ns →
    ItemLiesIn ls ns i → ItemLiesIn ms os i
lies_too i ls ms ns os e f h = rw (e, f) h

line_lies : (first : ℕ) (xs : List CodeLine) (ls : List ℤ) (ns : List ℕ) (l n place : ℕ) (targets : List (Option ℕ))
    (p : PooledLine) → l + length (all_lists xs) ≤ length ls → n + length (all_names xs) ≤ length ns →
    slice_get (with_targets targets (pooled_lines first l n xs)) place ≡ Some p → ItemLiesIn ls ns p.item
unfolding pooled_lines all_lists all_names with_targets
line_lies first [] ls ns l n place targets p h k e = absurd (none-some p e)
line_lies first (x ∷ xs) ls ns l n zero targets p h k e = grind (arith, length-append, same_Some)
line_lies first (x ∷ xs) ls ns l n (suc place) targets p h k e =
    grind (
      arith,
      length-append,
      line_lies first xs ls ns (l + length (list_of x.item)) (n + length (name_of x.item)) place (others_of targets) p,
    )

pub item_there : (first : ℕ) (ps : List PooledLine) (ls : List ℤ) (ns : List ℕ) (place : ℕ) (p : PooledLine) →
    AreLinked first ps ls ns → slice_get ps place ≡ Some p → ItemLiesIn ls ns p.item
unfolding linked_lines
item_there first ps ls ns place p held e =
    let xs : List CodeLine = shown_lines first ls ns ps in
    let lists = ap length held.lists in
    let names = ap length held.names in
    grind (arith, nat_tests, line_lies)

-- ---- the target at a place

abbrev pub target_of_line : Option PooledLine → Option ℕ
target_of_line None = None
target_of_line (Some p) = target_of p.item

target_from : (first : ℕ) (xs : List CodeLine) (l n from place : ℕ) →
    target_of_line (slice_get (with_targets (jumps_from from xs).list (pooled_lines first l n xs)) place)
    ≡ target_in (slice_get (jumps_from from xs).list place)
unfolding pooled_lines with_targets jumps_from
target_from first [] l n from place = grind arith
target_from first (x ∷ xs) l n from zero = grind arith
target_from first (x ∷ xs) l n from (suc place) =
    grind (arith, target_from first xs (l + length (list_of x.item)) (n + length (name_of x.item)) (from + 1) place)

pub target_there : (first : ℕ) (ps : List PooledLine) (ls : List ℤ) (ns : List ℕ) (place : ℕ)
    (found : Option PooledLine) (all : List CodeLine) → AreLinked first ps ls ns → slice_get ps place ≡ found →
    shown_lines first ls ns ps ≡ all → target_of_line found ≡ target_at all place
unfolding linked_lines targets_of
target_there first ps ls ns place found all held at same = grind (arith, nat_tests, target_from)

-- ---- the targets are set from the last line to the first

-- the lines from a place on have their targets, the others are as they were, and these places wait
pub record AreSetFrom (place : ℕ) (old lines : List PooledLine) (places : List ℕ) (first : ℕ) (ls : List ℤ)
    (ns : List ℕ) :
    Type 0 where
  pub front : take place lines ≡ take place old
  pub back :
      drop place lines ≡ with_targets (jumps_from place (shown_lines first ls ns (drop place old))).list
      (drop place old)
  pub waits : places ≡ (jumps_from place (shown_lines first ls ns (drop place old))).waits

pub none_set : (place : ℕ) (old lines : List PooledLine) (places : List ℕ) (first : ℕ) (ls : List ℤ) (ns : List ℕ) →
    place ≡ length old → lines ≡ old → places ≡ [] → AreSetFrom place old lines places first ls ns
unfolding with_targets shown_lines jumps_from
none_set place old lines places first ls ns all same none = grind (arith, nat_tests, drop_all)

pub all_set : (old lines : List PooledLine) (places : List ℕ) (first : ℕ) (ls : List ℤ) (ns : List ℕ) →
    AreSetFrom zero old lines places first ls ns → lines ≡ with_targets (targets_of (shown_lines first ls ns old)) old
unfolding targets_of
all_set old lines places first ls ns set_all = set_all.back

jumps_wait : (ls : List ℤ) (ns : List ℕ) (i : PooledItem) (place : ℕ) (j : Jumps) →
    (jumps_before (shown_item ls ns i) place j).waits ≡ waits_before i place j.waits
jumps_wait ls ns i place j = grind (arith, nat_tests)

-- the line before has its target too
module _ (place : ℕ) (old lines : List PooledLine) (places : List ℕ) (first : ℕ) (ls : List ℤ) (ns : List ℕ)
    (d y : PooledLine)
    (done : AreSetFrom (place + 1) old lines places first ls ns) (within : place < length lines)
    (same_length : length lines ≡ length old)
    (written : y ≡ line_with_target (first_of places) (get_or lines place d)) where
  abbrev x : PooledLine
  x = get_or lines place d

  there : get_or old place d ≡ x
  there = grind (arith, nat_tests, get_or-take)

  from_here : drop place old ≡ x ∷ drop (place + 1) old
  from_here = grind (arith, add-one, drop-cons, get_or-take)

  abbrev rest : List PooledLine
  rest = drop (place + 1) old

  abbrev jumps : Jumps
  jumps = jumps_from (place + 1) (shown_lines first ls ns rest)

  abbrev jumps_here : Jumps
  jumps_here = jumps_before (shown_item ls ns x.item) place jumps

  line_set : y ∷ drop (place + 1) lines ≡ with_targets jumps_here.list (x ∷ rest)
  unfolding with_targets
  line_set = grind (arith, nat_tests)

  pub more_set : (new : List PooledLine) (waits : List ℕ) → new ≡ set lines place y →
      waits ≡ waits_before x.item place places → AreSetFrom place old new waits first ls ns
  unfolding shown_lines jumps_from
  more_set new waits put wait = record {
    front = grind (arith, take-set lines place y, take-take place (place + 1) lines, take-take place (place + 1) old);
    back = grind (arith, drop-set lines place y within, line_set, from_here);
    waits = grind (arith, jumps_wait ls ns x.item place jumps, from_here);
  }

-- ---- the name that a line calls

-- the pooled line at a place within the lines
module _ (first : ℕ) (ps qs : List PooledLine) (ls : List ℤ) (ns : List ℕ) (all : List CodeLine) (place : ℕ)
    (same : qs ≡ ps) (shown : shown_lines first ls ns ps ≡ all) (within : place < length all) where
  pub within_pooled : place < length qs
  within_pooled = grind (arith, shown_length)

  line_at : (d : PooledLine) → slice_get ps place ≡ Some (get_or qs place d)
  line_at d = ap (λ z. slice_get z place) (sym same) ∙ slice_get-get_or qs place d within_pooled

  pub item_at : (ms : List ℕ) (d : PooledLine) → ms ≡ ns → AreLinked first ps ls ns →
      ItemLiesIn ls ms (get_or qs place d).item
  item_at ms d names held = grind (arith, nat_tests, lies_too, item_there, line_at)

  pub call_at : (ms : List ℕ) (d : PooledLine) (called : Option (List ℕ)) → ms ≡ ns →
      ((lists : List ℤ) → called ≡ called_by (shown_item lists ms (get_or qs place d).item)) →
      IfSome (slice_get all place) (λ x. called ≡ called_by x.item)
  call_at ms d called names is =
      let line : PooledLine = get_or qs place d in
      let at : slice_get all place ≡ Some (shown_line first ls ns line) =
      ap (λ z. slice_get z place) (sym shown) ∙ line_there first ps ls ns place line (line_at d) in
      grind (arith, nat_tests)
