-- The kinds of stacks, and the stack after an instruction: how many entries it has, and which these are.
use Rattle.std.proofs.lemmas.Grind.{common_steps}
use Rattle.std.proofs.Common.{rules, ◌≡◌, ℕ, ◌+◌, ◌≤◌, true, List, [], ◌∷◌, ◌++◌, length, map, take, drop, refl, sym}
use Rattle.std.proofs.Common.{◌∙◌, ap, arith, None, subst, zero, suc}
use Rattle.std.specs.Prelude.{reverse, All}
use Rattle.std.proofs.lemmas.List.{length-append, length-take, length-drop, length-reverse, length-map, map-append}
use Rattle.std.proofs.lemmas.List.{reverse-append, reverse-reverse, take-append-drop, append_assoc}
use Rattle.vcode_base.specs.declared.kind.Kind.{Kind}
use Rattle.vcode_base.specs.declared.op.StackMove.{StackMove}
use Rattle.vcode_base.specs.Kinds.{are_same_kinds, result_kinds}
use Rattle.vcode_base.specs.Motions.{entries_after_move}
use Rattle.job_steps.specs.Motions.{top_entries, stack_after_move, operand_count, stack_after, depth_after}
use Rattle.job_steps.specs.States.{StackEntry, stack_kinds, State, words_of, held_words, new_entries}
use Rattle.job_steps.specs.Steps.{has_on_top, sources_of, question_of, results_of, can_run, held_at}
use Rattle.std.proofs.lemmas.List.Elements.{All-append, All-take, All-drop, All-nil, All-cons, All-head, All-tail}
use Rattle.vcode_base.specs.declared.op.Op.{Op}
use Rattle.vcode_base.specs.declared.op.Op.TheVariants.{Move}
use Rattle.vcode_base.specs.declared.rule.Rule.{Rule}
use Rattle.vcode_base.specs.Instructions.{op_of}
use Rattle.vcode_base.specs.Laws.{ResultsHaveNeededLengths}
use Rattle.vcode_base.specs.Meaning.{shape, value_fault}
use Rattle.vcode_reader.specs.Trees.{Item}
use Rattle.verifier.specs.Typed.{TypedProgram}
use Rattle.job_steps.specs.Questions.{Question, need_words}
use Rattle.job_steps.specs.Tracks.{IsDeep}
use Rattle.job_steps.proofs.Held.{Has, has_itself, Agree, held_among, held_append, total_words}

abbrev pub kind_of : StackEntry → Kind
kind_of e = e.value.kind

pub stack_kinds-append : (xs ys : List StackEntry) → stack_kinds (xs ++ ys) ≡ stack_kinds ys ++ stack_kinds xs
stack_kinds-append xs ys = ap reverse (map-append kind_of xs ys) ∙ reverse-append (map kind_of xs) (map kind_of ys)

pub reverse-cons : {A : Type 0} (x : A) (xs : List A) → reverse (x ∷ xs) ≡ reverse xs ++ x ∷ []
reverse-cons x xs = reverse-append (x ∷ []) xs

pub map-reverse : {A B : Type 0} (f : A → B) (xs : List A) → map f (reverse xs) ≡ reverse (map f xs)
map-reverse f [] = refl
map-reverse f (x ∷ xs) = grind (arith, reverse-cons, map-append, (map-reverse f xs))

-- ---- two lists one after another, split at the begin of the second

pub record IsSplit (xs ys zs ws : List Kind) : Type 0 where
  pub front : xs ≡ zs
  pub back : ys ≡ ws

pub split_same : (xs ys zs ws : List Kind) → xs ++ ys ≡ zs ++ ws → length ys ≡ length ws → IsSplit xs ys zs ws
split_same [] ys [] ws e n = record { front = refl; back = e }
split_same [] ys (z ∷ zs) ws e n = grind (arith, length-append)
split_same (x ∷ xs) ys [] ws e n = grind (arith, length-append)
split_same (x ∷ xs) ys (z ∷ zs) ws e n = grind (arith, (split_same xs ys zs ws))

-- the top entries of a stack and those below them
pub record IsCut (stack : List StackEntry) (below own : List Kind) : Type 0 where
  pub deep : length own ≤ length stack
  pub top : stack_kinds (take (length own) stack) ≡ own
  pub under : stack_kinds (drop (length own) stack) ≡ below

pub cut : (stack : List StackEntry) (below own : List Kind) → stack_kinds stack ≡ below ++ own → IsCut stack below own
cut stack below own e =
    let whole = stack_kinds-append (take (length own) stack) (drop (length own) stack) in
    let parts = split_same (stack_kinds (drop (length own) stack)) (stack_kinds (take (length own) stack)) below own in
    grind (arith, length-reverse, length-map, length-append, take-append-drop, length-take)

-- ---- the test of kinds

pub same_kinds : (ks : List Kind) → are_same_kinds ks ks ≡ true
same_kinds [] = refl
same_kinds (k ∷ ks) = grind (arith, (same_kinds ks))

pub on_top : (stack : List StackEntry) (below own : List Kind) → IsCut stack below own → has_on_top own stack ≡ true
on_top stack below own c = ap (are_same_kinds own) c.top ∙ same_kinds own

same_lengths : (ks ls : List Kind) → are_same_kinds ks ls ≡ true → length ks ≡ length ls
same_lengths [] ls e = grind arith
same_lengths (k ∷ ks) ls e = grind (arith, (same_lengths ks))

-- entries of these kinds are there
pub there : (own : List Kind) (stack : List StackEntry) → has_on_top own stack ≡ true → length own ≤ length stack
there own stack e = grind (arith, same_lengths, length-reverse, length-map, length-take)

-- ---- the kinds of results, and of entries that are moved

-- an instruction that replaces the top entries
pub kinds-pushed : (stack : List StackEntry) (below own gives : List Kind) (results : List StackEntry) →
    IsCut stack below own → map kind_of results ≡ gives → stack_kinds (reverse results ++ drop (length own) stack) ≡
    below ++ gives
kinds-pushed stack below own gives results c e = grind (arith, stack_kinds-append, map-reverse, reverse-reverse)

-- a motion
pub kinds-moved : (motion : StackMove) (stack : List StackEntry) (below lower upper : List Kind) →
    stack_kinds stack ≡ below ++ (lower ++ upper) → (length lower + length upper ≤ length stack) × (stack_kinds
    (stack_after_move motion (length lower) (length upper) stack) ≡ below ++ entries_after_move motion lower upper)
kinds-moved motion stack below lower upper e =
    let first = cut stack (below ++ lower) upper (e ∙ sym (append_assoc below lower upper)) in
    let second = cut (drop (length upper) stack) below lower first.under in
    let low = top_entries (length lower) (drop (length upper) stack) in
    let up = top_entries (length upper) stack in
    grind (arith, map-append, map-reverse, length-drop, kinds-pushed)

-- ---- what holds of each entry

pub All-reverse : {E : Type 0} (P : E → Type 0) (xs : List E) → All P xs → All P (reverse xs)
All-reverse P [] all = All-nil P
All-reverse P (x ∷ xs) all =
    subst (All P) (sym (reverse-cons x xs)) (All-append P (reverse xs) (x ∷ []) (All-reverse P xs (All-tail P x xs all))
    (All-cons P x [] (All-head P x xs all) (All-nil P)))

All-move : {E : Type 0} (P : E → Type 0) (motion : StackMove) (lower upper : List E) → All P lower → All P upper →
    All P (entries_after_move motion lower upper)
All-move P motion lower upper l u = grind (arith, common_steps)

All-stack_after_move : {E : Type 0} (P : E → Type 0) (motion : StackMove) (lower upper : ℕ) (stack : List E) →
    All P stack → All P (stack_after_move motion lower upper stack)
All-stack_after_move P motion lower upper stack all =
    search (rules, All-append, All-reverse, All-move, All-take, All-drop) depth 9

-- Each entry is a result or an entry of the stack before.
pub All-stack_after : {E : Type 0} (P : E → Type 0) (op : Op) (results stack : List E) → All P results → All P stack →
    All P (stack_after op results stack)
All-stack_after P (Move motion lower upper) results stack new old = All-stack_after_move P motion lower upper stack old
All-stack_after P op results stack new old = search (rules, All-append, All-reverse, All-drop)

-- ---- how many entries there are

-- with as many results as there are kinds of them
pub length-stack_after : {E : Type 0} (op : Op) (results stack : List E) → length results ≡ length (result_kinds op) →
    IsDeep op (length stack) → length (stack_after op results stack) ≡ depth_after op (length stack)
length-stack_after op results stack h deep = search (rules, length-drop, length-append, length-reverse)

-- an instruction that can run finds its entries
pub deep_of : (verified : TypedProgram) (item : Item) (stack : List StackEntry) → can_run verified item stack ≡ true →
    IsDeep (op_of item) (length stack)
deep_of verified item stack runs = grind (arith, there)

-- no instruction has more than two results
pub few_results : (op : Op) → length (result_kinds op) ≤ 2
few_results op = grind arith

pub length-results : (next : ℕ) (q : Question) → length (new_entries next (results_of q)) ≡ length (result_kinds q.op)
length-results next q = grind arith

-- ---- how many words there are

pub held_drop : (n : ℕ) (es : List StackEntry) → held_words (drop n es) ≤ held_words es
held_drop zero es = omega arith
held_drop (suc n) es = grind (arith, (held_drop n))

total_append : (xs ys : List StackEntry) → total_words (xs ++ ys) ≡ total_words xs + total_words ys
total_append [] ys = omega arith
total_append (x ∷ xs) ys = omega (arith, total_append xs ys)

pub total_reverse : (xs : List StackEntry) → total_words (reverse xs) ≡ total_words xs
total_reverse [] = refl
total_reverse (x ∷ xs) = grind (arith, reverse-cons, total_append, (total_reverse xs))

-- the results are held with what was held below the operands
held_below : (op : Op) (results stack : List StackEntry) → Agree stack →
    held_words (stack_after op results stack) ≤ total_words results + held_words (drop (operand_count op) stack)
held_below (Move motion lower upper) results stack agree =
    omega (
      arith,
      held_among (stack_after_move motion lower upper stack) stack
          (All-stack_after_move (Has stack) motion lower upper stack (has_itself stack)) agree,
    )
held_below op results stack agree = grind (arith, held_append, total_reverse)

-- so they are with what counts as held at the instruction
pub held_after : (rule : Rule) (item : Item) (results : List StackEntry) (s : State) → Agree s.stack →
    held_words (stack_after (op_of item) results s.stack) ≤ total_words results + held_at rule item s
held_after rule item results s agree = grind (arith, held_below)

counted : (count : ℕ) (stack : List StackEntry) → count ≤ length stack →
    length (words_of (top_entries count stack)) ≡ count
counted count stack h = grind (arith, length-map, length-reverse, length-take)

-- the results have no more words than are needed
pub total_results : ResultsHaveNeededLengths → (next : ℕ) (item : Item) (stack : List StackEntry) →
    IsDeep (op_of item) (length stack) → shape (op_of item) (sources_of item stack) ≡ None →
    value_fault (op_of item) (sources_of item stack) ≡ None → total_words
    (new_entries next (results_of (question_of item stack))) ≤ need_words (question_of item stack)
total_results law next item stack deep shaped valued = grind arith
