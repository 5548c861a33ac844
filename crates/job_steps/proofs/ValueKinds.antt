-- The results of an instruction are of the kinds that its results have. What is made of flags is of flags.
use Rattle.std.proofs.Common.{rules, arith, ℕ, ℤ, pos, ◌+◌, Bool, cond, List, [], ◌∷◌, take, drop, refl, inl, suc, zero}
use Rattle.std.proofs.Common.{◌≡◌, ◌≤◌, false, map, Option, Some, None}
use Rattle.std.specs.Prelude.{All, zip, fold, flat_map, slice_index_or, ◌≤ℤ◌, count_by, slice_set, slice_get}
use Rattle.std.specs.Prelude.{unsigned_abs, int_lt}
use Rattle.std.specs.List.{enumerate_from, list_any}
use Rattle.std.proofs.lemmas.List.Elements.{All-nil, All-cons, All-head, All-tail, All-append, All-map, All-take}
use Rattle.std.proofs.lemmas.List.Elements.{All-drop, All-replicate, All-weaker, All-set, All-filter}
use Rattle.vcode_base.specs.Elements.{flag, logic, fold_step, identity, is_set}
use Rattle.vcode_base.specs.Kinds.{IsFlag, HasKind, HaveKinds, elementwise_operands, elementwise_results}
use Rattle.vcode_base.specs.Kinds.{segmented_operands, segmented_results, source_kinds, result_kinds}
use Rattle.vcode_base.specs.Segments.{pieces_of, arrival, scatter_of, sizes, total, segments, element, folds_before}
use Rattle.vcode_base.specs.declared.kind.Scalar.TheVariants.{Bool as Flags, Int as Numbers}
use Rattle.vcode_base.specs.declared.op.Fold.TheVariants.{Logic as LogicFold}
use Rattle.vcode_base.specs.declared.op.Logic.{Logic as LogicOp}
use Rattle.std.proofs.lemmas.List.{length-take}
use Rattle.std.proofs.lemmas.List.Sums.{count_by-le-length, sum_by-cons}
use Rattle.vcode_base.specs.declared.kind.Kind.{Kind}
use Rattle.vcode_base.specs.declared.op.Op.{Op}
use Rattle.vcode_base.specs.declared.op.Elementwise.{Elementwise as ElementwiseOp}
use Rattle.vcode_base.specs.declared.op.Elementwise.TheVariants.{Compare, Logic, Not, Select, IntToBool}
use Rattle.vcode_base.specs.declared.op.Segmented.{Segmented as SegmentedOp}
use Rattle.vcode_base.specs.declared.op.Segmented.TheVariants.{Scan, Reduce, Distribute, Permute, BackPermute}
use Rattle.vcode_base.specs.declared.op.Segmented.TheVariants.{DefaultPermute, Extract, Replace, Pack, MakeSegdes}
use Rattle.vcode_base.specs.Meaning.{operand, elementwise_result, segmented_result, segmented_fault, segmented_second}
use Rattle.vcode_base.specs.Meaning.{value_fault, result_of, second_result_of, two_by_two, selection_of}
use Rattle.vcode_base.specs.Meaning.{flagged_elements}
use Rattle.job_steps.specs.Reached.{HasItsKind}
use Rattle.job_steps.specs.Steps.{vectors_of}
use Rattle.vcode_base.specs.declared.kind.Kind.TheVariants as kind

-- ---- lists of any elements

pub All-always : {A : Type 0} (P : A → Type 0) → ((x : A) → P x) → (xs : List A) → All P xs
All-always P always [] = All-nil P
All-always P always (x ∷ xs) = All-cons P x xs (always x) (All-always P always xs)

pub All-zip : {A B : Type 0} (P : A → Type 0) (Q : B → Type 0) (xs : List A) (ys : List B) → All P xs → All Q ys →
    All (λ (p : A × B). P p.0 × Q p.1) (zip xs ys)
All-zip {A} {B} P Q (x ∷ xs) (y ∷ ys) p q =
    grind (arith, All-head, (All-zip P Q xs ys (All-tail P x xs p) (All-tail Q y ys q)))
All-zip {A} {B} P Q xs ys p q = All-nil (λ (p : A × B). P p.0 × Q p.1)

pub All-flat_map : {A B : Type 0} (P : B → Type 0) (f : A → List B) (xs : List A) → All (λ x. All P (f x)) xs →
    All P (flat_map f xs)
All-flat_map P f [] all = All-nil P
All-flat_map P f (x ∷ xs) all =
    search (rules, All-append, All-head, (All-flat_map P f xs (All-tail (λ x. All P (f x)) x xs all)))

pub All-cut : (P : ℤ → Type 0) (ns : List ℕ) (xs : List ℤ) → All P xs → All (All P) (pieces_of ns xs)
All-cut P [] xs all = All-nil (All P)
All-cut P (n ∷ ns) xs all =
    All-cons (All P) (take n xs) (pieces_of ns (drop n xs)) (All-take P n xs all)
    (All-cut P ns (drop n xs) (All-drop P n xs all))

All-enumerate : (P : ℤ → Type 0) (from : ℕ) (xs : List ℤ) → All P xs →
    All (λ (p : ℕ × ℤ). P p.1) (enumerate_from from xs)
All-enumerate P from [] all = All-nil (λ (p : ℕ × ℤ). P p.1)
All-enumerate P from (x ∷ xs) all = grind (arith, All-head, (All-enumerate P (from + 1) xs (All-tail P x xs all)))

pub at_index : (P : ℤ → Type 0) (xs : List ℤ) (n : ℕ) (d : ℤ) → All P xs → P d → P (slice_index_or xs n d)
at_index P [] n d all here = here
at_index P (x ∷ xs) zero d all here = All-head P x xs all
at_index P (x ∷ xs) (suc n) d all here = at_index P xs n d (All-tail P x xs all) here

-- ---- flags

pub zero_flag : IsFlag (pos 0)
zero_flag = inl refl

pub is_flag : (b : Bool) → IsFlag (flag b)
is_flag b = grind arith

pub chosen_flag : (b : Bool) (x y : ℤ) → IsFlag x → IsFlag y → IsFlag (cond b x y)
chosen_flag b x y p q = grind arith

pub logic_flag : (op : LogicOp) (a b : ℤ) → IsFlag a → IsFlag b → IsFlag (logic op a b)
logic_flag op a b p q = grind arith

pub folded : (op : LogicOp) (a : ℤ) (xs : List ℤ) → IsFlag a → All IsFlag xs →
    IsFlag (fold (fold_step (LogicFold op Flags)) a xs)
folded op a [] p all = p
folded op a (x ∷ xs) p all =
    folded op (logic op a x) xs (logic_flag op a x p (All-head IsFlag x xs all)) (All-tail IsFlag x xs all)

pub first_flag : (op : LogicOp) → IsFlag (identity (LogicFold op Flags))
first_flag op = grind arith

arrived : (moves : List (ℤ × ℤ)) (q : ℕ) (d : ℤ) → All (λ (p : ℤ × ℤ). IsFlag p.1) moves → IsFlag d →
    IsFlag (arrival moves q d)
arrived [] q d all here = here
arrived ((i, x) ∷ moves) q d all here = search (rules, All-tail, chosen_flag, All-head, (arrived moves q))

-- what is so of each element of a list is so of it beside another list
beside_left : {A B : Type 0} (P : A → Type 0) (xs : List A) (ys : List B) → All P xs →
    All (λ (m : A × B). P m.0) (zip xs ys)
beside_left {A} {B} P (x ∷ xs) (y ∷ ys) p = grind (arith, All-head, (beside_left P xs ys (All-tail P x xs p)))
beside_left {A} {B} P xs ys p = All-nil (λ (m : A × B). P m.0)

beside_right : {A B : Type 0} (Q : B → Type 0) (xs : List A) (ys : List B) → All Q ys →
    All (λ (m : A × B). Q m.1) (zip xs ys)
beside_right {A} {B} Q (x ∷ xs) (y ∷ ys) q = grind (arith, All-head, (beside_right Q xs ys (All-tail Q y ys q)))
beside_right {A} {B} Q xs ys q = All-nil (λ (m : A × B). Q m.1)

moved_flags : (xs is there : List ℤ) → All IsFlag xs → All IsFlag there → All IsFlag (scatter_of xs is there)
moved_flags xs is there p q =
    let moves = beside_right IsFlag is xs p in
    let old = All-enumerate IsFlag 0 there q in
    search (rules, All-map, arrived)

-- an operand is of the kind at its place
operand_kind : (ks : List Kind) (xs : List (List ℤ)) → HaveKinds ks xs → (i : ℕ) (k : Kind) → slice_get ks i ≡ Some k →
    HasKind k (operand xs i)
operand_kind [] xs h i k e = absurd (let g : ◌≡◌ {A = Option Kind} None (Some k) = e in cc)
operand_kind (l ∷ ks) xs h i k e = grind (arith, (operand_kind ks))

-- ---- elementwise instructions

paired_flags : (f : ℤ → ℤ → ℤ) → ((a b : ℤ) → IsFlag (f a b)) → (xs ys : List ℤ) → All IsFlag (two_by_two f xs ys)
paired_flags f always xs ys = search (rules, All-map)

-- what is made of two lists side by side, if it is of flags at each place
map_zip : {A B : Type 0} (P : A → Type 0) (Q : B → Type 0) (f : A × B → ℤ) →
    ((a : A) (b : B) → P a → Q b → IsFlag (f (a, b))) → (xs : List A) (ys : List B) → All P xs → All Q ys →
    All IsFlag (map f (zip xs ys))
map_zip {A} {B} P Q f flags xs ys p q =
    All-map IsFlag f (zip xs ys) (All-weaker (λ (m : A × B). P m.0 × Q m.1) (λ m. IsFlag (f m))
    (λ m h. flags m.0 m.1 h.0 h.1) (zip xs ys) (All-zip P Q xs ys p q))

flat_zip : {A B : Type 0} (P : A → Type 0) (Q : B → Type 0) (f : A × B → List ℤ) →
    ((a : A) (b : B) → P a → Q b → All IsFlag (f (a, b))) → (xs : List A) (ys : List B) → All P xs → All Q ys →
    All IsFlag (flat_map f (zip xs ys))
flat_zip {A} {B} P Q f flags xs ys p q =
    All-flat_map IsFlag f (zip xs ys) (All-weaker (λ (m : A × B). P m.0 × Q m.1) (λ m. All IsFlag (f m))
    (λ m h. flags m.0 m.1 h.0 h.1) (zip xs ys) (All-zip P Q xs ys p q))

-- whatever lies beside the segments
flat_left : {B : Type 0} (f : List ℤ × B → List ℤ) →
    ((v : List ℤ) (b : B) → All IsFlag v → All IsFlag (f (v, b))) → (vs : List (List ℤ)) (bs : List B) →
    All (All IsFlag) vs → All IsFlag (flat_map f (zip vs bs))
flat_left {B} f flags vs bs p =
    flat_zip (All IsFlag) (λ (b : B). Unit {0}) f (λ v b h u. flags v b h) vs bs p
    (All-always (λ (b : B). Unit {0}) (λ b. tt) bs)

logic_flags : (op : LogicOp) (xs ys : List ℤ) → All IsFlag xs → All IsFlag ys → All IsFlag (two_by_two (logic op) xs ys)
logic_flags op xs ys p q = map_zip IsFlag IsFlag (λ m. logic op m.0 m.1) (λ a b. logic_flag op a b) xs ys p q

selected_flags : (bs xs ys : List ℤ) → All IsFlag xs → All IsFlag ys → All IsFlag (selection_of bs xs ys)
selected_flags bs xs ys p q =
    map_zip (λ b. Unit {0}) (λ (m : ℤ × ℤ). IsFlag m.0 × IsFlag m.1) (λ m. cond (is_set m.0) m.1.0 m.1.1)
    (λ b m u h. chosen_flag (is_set b) m.0 m.1 h.0 h.1) bs (zip xs ys) (All-always (λ b. Unit {0}) (λ b. tt) bs)
    (All-zip IsFlag IsFlag xs ys p q)

-- a vector of its kind
one : (k : Kind) (words : List ℤ) → HasKind k words → All HasItsKind (record { kind = k; words = words } ∷ [])
one k words h = All-cons HasItsKind (record { kind = k; words = words }) [] h (All-nil HasItsKind)

two : (k l : Kind) (words others : List ℤ) → HasKind k words → HasKind l others →
    All HasItsKind (record { kind = k; words = words } ∷ record { kind = l; words = others } ∷ [])
two k l words others p q = grind arith

elementwise_kinds : (e : ElementwiseOp) (xs : List (List ℤ)) (others : List (List ℤ)) →
    HaveKinds (elementwise_operands e) xs → All HasItsKind (vectors_of (elementwise_results e)
    (elementwise_result e xs ∷ others))
elementwise_kinds (Compare op) xs others h = grind (arith, paired_flags)
elementwise_kinds (Logic op Flags) xs others h =
    let own = elementwise_operands (Logic op Flags) in
    one kind.Bool _ (logic_flags op (operand xs 0) (operand xs 1) (operand_kind own xs h 0 kind.Bool refl)
    (operand_kind own xs h 1 kind.Bool refl))
elementwise_kinds (Not Flags) xs others h = search (rules, one, All-map, is_flag)
elementwise_kinds (Select Flags) xs others h = grind (arith, selected_flags)
elementwise_kinds IntToBool xs others h = search (rules, one, All-map, is_flag)
elementwise_kinds e xs others h = one kind.Int _ tt

-- ---- instructions over segments

segment_flags : (s xs : List ℤ) → All IsFlag xs → All (All IsFlag) (segments s xs)
segment_flags s xs p = All-cut IsFlag (sizes s) xs p

scan_flags : (op : LogicOp) (s xs : List ℤ) → All IsFlag xs →
    All IsFlag (flat_map (folds_before (LogicFold op Flags)) (segments s xs))
scan_flags op s xs p = search (rules, All-flat_map, All-map, folded, first_flag, All-take, segment_flags)

element_flag : (v : List ℤ) (i : ℤ) → All IsFlag v → IsFlag (element v i)
element_flag v i p = at_index IsFlag v (unsigned_abs i) (pos 0) p zero_flag

-- ---- descriptors that are made

counts : (s bs : List ℤ) → total (map (λ (xs : List ℤ). pos (count_by is_set xs)) (segments s bs)) ≤ total s
counts [] bs = omega arith
counts (n ∷ s) bs =
    let here = take (unsigned_abs n) bs in
    let later = segments s (drop (unsigned_abs n) bs) in
    let count : List ℤ → ℤ = λ xs. pos (count_by is_set xs) in
    let made : total (count here ∷ map count later) ≡ count_by is_set here + total (map count later) = sum_by-cons
    unsigned_abs (count here) (map count later) in
    let whole : total (n ∷ s) ≡ unsigned_abs n + total s = sum_by-cons unsigned_abs n s in
    let rest : total (map count later) ≤ total s = counts s (drop (unsigned_abs n) bs) in
    omega (arith, made, whole, rest, count_by-le-length is_set here, length-take (unsigned_abs n) bs)

pack_counts : (s bs : List ℤ) → HasKind kind.Segdes s → HasKind kind.Segdes
    (map (λ (xs : List ℤ). pos (count_by is_set xs)) (segments s bs))
pack_counts s bs h = search (rules, All-map, counts)

none_negative : (xs : List ℤ) → list_any (λ n. int_lt n (pos 0)) xs ≡ false → All (λ n. pos 0 ≤ℤ n) xs
none_negative [] e = All-nil (λ n. pos 0 ≤ℤ n)
none_negative (x ∷ xs) e = grind (arith, (none_negative xs))

made : (xs : List ℤ) → segmented_fault MakeSegdes (xs ∷ []) ≡ None → HasKind kind.Segdes xs
made xs e = grind (arith, none_negative)

-- an operand that is of flags
own : (e : SegmentedOp) (xs : List (List ℤ)) → HaveKinds (segmented_operands e) xs → (i : ℕ) →
    slice_get (segmented_operands e) i ≡ Some kind.Bool → All IsFlag (operand xs i)
own e xs h i = operand_kind (segmented_operands e) xs h i kind.Bool

packed_flags : (xs bs : List ℤ) → All IsFlag xs → All IsFlag (flagged_elements xs bs)
packed_flags xs bs p =
    All-map IsFlag (λ (m : ℤ × ℤ). m.0) _ (All-filter (λ (m : ℤ × ℤ). is_set m.1) (λ (m : ℤ × ℤ). IsFlag m.0) _
    (beside_left IsFlag xs bs p))

segmented_kinds : (e : SegmentedOp) (xs : List (List ℤ)) → HaveKinds (segmented_operands e) xs →
    segmented_fault e xs ≡ None → All HasItsKind (vectors_of (segmented_results e)
    (segmented_result e xs ∷ segmented_second e xs ∷ []))
segmented_kinds (Scan (LogicFold op Flags)) xs h v =
    one kind.Bool _ (scan_flags op (operand xs 1) (operand xs 0) (own (Scan (LogicFold op Flags)) xs h 0 refl))
segmented_kinds (Reduce (LogicFold op Flags)) xs h v =
    let p = segment_flags (operand xs 1) (operand xs 0) (own (Reduce (LogicFold op Flags)) xs h 0 refl) in
    search (rules, one, All-map, folded, first_flag)
segmented_kinds (Distribute Flags) xs h v =
    let p = beside_right IsFlag (sizes (operand xs 1)) (operand xs 0) (own (Distribute Flags) xs h 0 refl) in
    search (rules, one, All-flat_map, All-replicate)
segmented_kinds (Permute Flags) xs h v =
    let p = own (Permute Flags) xs h 0 refl in
    search (rules, one, flat_left, moved_flags, All-replicate, zero_flag, segment_flags)
segmented_kinds (BackPermute Flags) xs h v =
    let p = own (BackPermute Flags) xs h 0 refl in
    search (rules, one, flat_left, segment_flags, All-map, element_flag)
segmented_kinds (DefaultPermute Flags) xs h v =
    one kind.Bool _ (flat_zip (All IsFlag) (λ (m : List ℤ × List ℤ). All IsFlag m.1)
    (λ (m : List ℤ × (List ℤ × List ℤ)). scatter_of m.0 m.1.0 m.1.1) (λ v m h k. moved_flags v m.0 m.1 h k) _ _
    (segment_flags (operand xs 3) (operand xs 0) (own (DefaultPermute Flags) xs h 0 refl))
    (beside_right (All IsFlag) (segments (operand xs 3) (operand xs 1)) (segments (operand xs 4) (operand xs 2))
    (segment_flags (operand xs 4) (operand xs 2) (own (DefaultPermute Flags) xs h 2 refl))))
segmented_kinds (Extract Flags) xs h v =
    let p = beside_left (All IsFlag) (segments (operand xs 2) (operand xs 0)) (operand xs 1)
    (segment_flags (operand xs 2) (operand xs 0) (own (Extract Flags) xs h 0 refl)) in
    search (rules, one, All-map, element_flag)
segmented_kinds (Replace Flags) xs h v =
    one kind.Bool _ (flat_zip (All IsFlag) (λ (m : ℤ × ℤ). IsFlag m.1)
    (λ (m : List ℤ × (ℤ × ℤ)). slice_set m.0 (unsigned_abs m.1.0) m.1.1)
    (λ v m h k. All-set IsFlag v (unsigned_abs m.0) m.1 k h) _ _
    (segment_flags (operand xs 3) (operand xs 0) (own (Replace Flags) xs h 0 refl))
    (beside_right IsFlag (operand xs 1) (operand xs 2) (own (Replace Flags) xs h 2 refl)))
segmented_kinds (Pack Numbers) xs h v = grind (arith, pack_counts)
segmented_kinds (Pack Flags) xs h v = grind (arith, packed_flags, pack_counts)
segmented_kinds MakeSegdes xs h v = one kind.Segdes _ (made (operand xs 0) v)
segmented_kinds e xs h v = one kind.Int _ tt

-- the results of an instruction that takes these operands, and has no fault of the values
pub kinds_of_results : (op : Op) (xs : List (List ℤ)) → HaveKinds (source_kinds op) xs → value_fault op xs ≡ None →
    All HasItsKind (vectors_of (result_kinds op) (result_of op xs ∷ second_result_of op xs ∷ []))
unfolding value_fault result_of second_result_of
kinds_of_results op xs h v = grind (arith, elementwise_kinds, segmented_kinds)
