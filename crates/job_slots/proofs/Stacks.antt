-- How an instruction moves the entries of a stack, and what holds of its parts.
use Rattle.std.proofs.Common.{◌≡◌, ◌≤◌, ℕ, Bool, List, [], ◌∷◌, length, arith, ℤ, ◌+◌, ◌-◌, ◌++◌, map, take, drop}
use Rattle.std.proofs.Common.{reverse, refl, rules, ◌∙◌, ap, sym, length-drop}
use Rattle.vcode_base.specs.declared.kind.Kind.{Kind}
use Rattle.vcode_base.specs.declared.op.Op.{Op}
use Rattle.vcode_base.specs.declared.op.Op.TheVariants.{Return, Move}
use Rattle.vcode_base.specs.Instructions.{op_of}
use Rattle.vcode_base.specs.Kinds.{HaveKinds, result_kinds}
use Rattle.vcode_reader.specs.Trees.{Body}
use Rattle.verifier.specs.Typed.{TypedProgram}
use Rattle.job_steps.specs.States.{Active}
use Rattle.job_steps.specs.Steps.{calls_after, first_item}
use Rattle.std.proofs.lemmas.Bool.Decides.{nat_tests}
use Rattle.std.specs.Prelude.{All}
use Rattle.std.proofs.lemmas.List.{length-reverse, length-take, length-drop, reverse-append, reverse-reverse}
use Rattle.std.proofs.lemmas.List.{map-append, take-append-drop, take_all, drop-take, take-map, drop-map, drop_at}
use Rattle.std.proofs.lemmas.List.{length-map}
use Rattle.std.proofs.lemmas.List.Sorted.{All-permutation, IsPermutation-reverse, sum_by-IsPermutation}
use Rattle.std.proofs.Math.Seq.{drop-append_seam, take-append_seam}
use Rattle.vcode_base.specs.declared.op.StackMove.TheVariants.{Copy}
use Rattle.job_memory.specs.JobBlocks.{JobBlocks}
use Rattle.job_steps.specs.Motions.{top_entries, stack_after, stack_after_move, operand_count}
use Rattle.job_slots.specs.Commits.{moved_ids}
use Rattle.job_slots.specs.Executions.{AreFew, CanShare}
use Rattle.std.proofs.lemmas.Grind.{common_steps}
use Rattle.std.proofs.lemmas.List.Elements.{All-append, All-take, All-drop}
use Rattle.vcode_base.specs.declared.op.StackMove.{StackMove}
use Rattle.vcode_base.specs.Motions.{entries_after_move}
use Rattle.std.proofs.lemmas.List.Sums.{sum_by-append}
use Rattle.refcounts.specs.SharedState.{occurrences, slot_at}
use Rattle.job_slots.specs.Holdings.{Cell, ids_of}
use Rattle.std.specs.Borrow.{Bor}
use Rattle.vcode_base.specs.Meaning.{operand}
use Rattle.vcode_base.specs.Operands.{contents}
use Rattle.job_steps.specs.Tracks.{IsDeep}

-- ======== how many results an instruction has, and when it is a RET

-- an instruction has at most two results
pub two_results : (op : Op) → length (result_kinds op) ≤ 2
two_results op = grind arith

-- there is a list for each kind
pub length_by_kinds : (kinds : List Kind) (lists : List (List ℤ)) → HaveKinds kinds lists → length lists ≡ length kinds
length_by_kinds [] lists have = grind arith
length_by_kinds (k ∷ ks) lists have = grind (arith, (length_by_kinds ks))

-- ---- RET

-- only by RET no call is left
pub return_leaves : (verified : TypedProgram) (flag : Bool) (rest : Body) (ret : ℕ) (outer : List Active) →
    calls_after verified flag rest ret outer ≡ [] → op_of (first_item rest ret).item ≡ Return
return_leaves verified flag rest ret outer none = grind arith

-- ======== parts of lists from the other end

-- ---- a list turned round

pub reverse-cons : {E : Type 0} (x : E) (xs : List E) → reverse (x ∷ xs) ≡ reverse xs ++ x ∷ []
reverse-cons x xs = reverse-append (x ∷ []) xs

pub map-reverse : {E F : Type 0} (f : E → F) (xs : List E) → map f (reverse xs) ≡ reverse (map f xs)
map-reverse f [] = refl
map-reverse f (x ∷ xs) = grind (arith, reverse-cons, map-append, (map-reverse f xs))

pub All-reverse : {E : Type 0} (P : E → Type 0) (xs : List E) → All P xs → All P (reverse xs)
All-reverse P xs all = All-permutation P xs (reverse xs) (IsPermutation-reverse xs) all

-- ---- its parts

module _ (xs : List ℕ) (k : ℕ) (within : k ≤ length xs) where
  split : reverse xs ≡ reverse (drop (length xs - k) xs) ++ reverse (take (length xs - k) xs)
  split = rw (← reverse-append, take-append-drop)

  count : k ≡ length (reverse (drop (length xs - k) xs))
  count = omega (arith, length-reverse (drop (length xs - k) xs), length-drop (length xs - k) xs)

  drop-reverse : drop k (reverse xs) ≡ reverse (take (length xs - k) xs)
  drop-reverse = grind (arith, split, count, drop-append_seam)

  take-reverse : take k (reverse xs) ≡ reverse (drop (length xs - k) xs)
  take-reverse = grind (arith, split, count, take-append_seam)

-- the top, if it is the last
pub top_slice : (xs : List ℕ) (count : ℕ) → count ≤ length xs →
    take (length xs - (length xs - count)) (drop (length xs - count) xs) ≡ top_entries count (reverse xs)
top_slice xs count within = grind (arith, take_all, count, length-drop, take-reverse, reverse-reverse)

pub moved_slice : (xs : List ℕ) (lower upper : ℕ) → lower + upper ≤ length xs →
    take (length xs - upper - (length xs - upper - lower)) (drop (length xs - upper - lower) xs)
    ≡ moved_ids lower upper (reverse xs)
moved_slice xs lower upper within =
    grind (arith, nat_tests, length-take, drop-reverse, take-reverse, reverse-reverse, drop-take)

-- the blocks that an instruction copies are few
pub few_copied : (op : Op) (lower upper : ℕ) (ids cells slice : List ℕ) (blocks : JobBlocks) →
    op ≡ Move Copy lower upper → CanShare op ids blocks → cells ≡ reverse ids →
    slice ≡ moved_ids lower upper (reverse cells) → AreFew blocks slice
few_copied op lower upper ids cells slice blocks op_is can cells_are slice_is = grind (arith, reverse-reverse)

-- ======== what an instruction does to a stack, seen through a function of its entries

module _ {A B : Type 0} (f : A → B) where
  pub map-top : (n : ℕ) (xs : List A) → map f (top_entries n xs) ≡ top_entries n (map f xs)
  map-top n xs = simp (map-reverse, take-map)

  pub map-lower : (lower upper : ℕ) (xs : List A) →
      map f (top_entries lower (drop upper xs)) ≡ top_entries lower (drop upper (map f xs))
  map-lower lower upper xs = simp (map-reverse, take-map, drop-map)

  -- Whether entries are looked at before an instruction or after it.
  pub map-stack_after : (op : Op) (news xs : List A) →
      map f (stack_after op news xs) ≡ stack_after op (map f news) (map f xs)
  map-stack_after op news xs = search (rules, map-append, map-reverse, take-map, drop-map)

-- ---- what holds of each entry

All-moved : {E : Type 0} (P : E → Type 0) (motion : StackMove) (lower upper : List E) → All P lower → All P upper →
    All P (entries_after_move motion lower upper)
All-moved P motion lower upper l u = grind (arith, common_steps, All-append)

pub All-move : {E : Type 0} (P : E → Type 0) (motion : StackMove) (lower upper : ℕ) (stack : List E) → All P stack →
    All P (stack_after_move motion lower upper stack)
All-move P motion lower upper stack all =
    let under : All P (drop upper stack) = All-drop P upper stack all in
    let low = All-reverse P _ (All-take P lower _ under) in
    let up = All-reverse P _ (All-take P upper _ all) in
    All-append P _ _ (All-reverse P _ (All-moved P motion _ _ low up)) (All-drop P lower _ under)

-- ======== how often cells name a block

pub named-reverse : (id : ℕ) (ids : List ℕ) → occurrences id (reverse ids) ≡ occurrences id ids
named-reverse id ids = grind (arith, sum_by-IsPermutation, IsPermutation-reverse)

-- how often cells name a block
abbrev pub times : ℕ → List Cell → ℕ
times id cells = occurrences id (ids_of cells)

pub times_append : (id : ℕ) (xs ys : List Cell) → times id (xs ++ ys) ≡ times id xs + times id ys
times_append id xs ys = grind (arith, map-append, sum_by-append)

pub times_reverse : (id : ℕ) (xs : List Cell) → times id (reverse xs) ≡ times id xs
times_reverse id xs = ap (occurrences id) (map-reverse (λ (c : Cell). c.id) xs) ∙ named-reverse id (ids_of xs)

-- each cell is at the top or below
pub times_top : (id n : ℕ) (xs : List Cell) → times id (top_entries n xs) + times id (drop n xs) ≡ times id xs
times_top id n xs =
    let whole = times_append id (take n xs) (drop n xs) in
    omega (arith, times_reverse id (take n xs), rw take-append-drop at whole)

-- ======== the words of the operands that an instruction takes, by their places

-- the values at five places
abbrev five_of : List (List ℤ) → List (List ℤ)
five_of ws = operand ws 0 ∷ operand ws 1 ∷ operand ws 2 ∷ operand ws 3 ∷ operand ws 4 ∷ []

five : (ws : List (List ℤ)) → length ws ≤ 5 → take (length ws) (five_of ws) ≡ ws
five [] h = refl
five (a ∷ []) h = refl
five (a ∷ b ∷ []) h = refl
five (a ∷ b ∷ c ∷ []) h = refl
five (a ∷ b ∷ c ∷ d ∷ []) h = refl
five (a ∷ b ∷ c ∷ d ∷ e ∷ []) h = refl
five (a ∷ b ∷ c ∷ d ∷ e ∷ f ∷ ws) h = absurd (omega arith)

-- lists that are lent, one for each of five places
pub lent : (n : ℕ) (ws : List (List ℤ)) (a b c d e : Bor (List ℤ)) → n ≡ length ws → length ws ≤ 5 →
    a.now ≡ operand ws 0 → b.now ≡ operand ws 1 → c.now ≡ operand ws 2 → d.now ≡ operand ws 3 → e.now ≡ operand ws 4 →
    contents (take n (a ∷ b ∷ c ∷ d ∷ e ∷ [])) ≡ ws
lent n ws a b c d e long few first second third fourth fifth =
    rw (← take-map, long, first, second, third, fourth, fifth) (five ws few)

pub few_operands : (op : Op) → operand_count op ≤ 5
few_operands op = grind arith

pub deep_enough : (op : Op) (depth : ℕ) → IsDeep op depth → operand_count op ≤ depth
deep_enough op depth h = grind arith

-- ---- the top of a stack, from the bottom up

-- what two lists have in common, their tops have too
pub same_top : {E F G : Type 0} (f : E → G) (g : F → G) (n : ℕ) (xs : List E) (ys : List F) → map f xs ≡ map g ys →
    map f (top_entries n xs) ≡ map g (top_entries n ys)
same_top f g n xs ys same = map-top f n xs ∙ (ap (top_entries n) same ∙ sym (map-top g n ys))

-- the last of a list that has the top last
pub last_are_top : {E : Type 0} (n : ℕ) (xs : List E) → n ≤ length xs →
    drop (length xs - n) (reverse xs) ≡ top_entries n xs
last_are_top n xs h =
    grind (
      arith,
      drop_at,
      take-append-drop n xs,
      reverse-append (take n xs) (drop n xs),
      length-reverse (drop n xs),
      length-drop n xs,
    )

-- the operands as they are read
pub ruleset of_top = (length-drop, length-reverse, take_all, slot_at, last_are_top, same_top)

pub ruleset of_lent = (length-map, slot_at, lent)
