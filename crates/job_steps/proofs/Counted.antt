-- What counted at an instruction that was executed, by the entries that it left.
use Rattle.std.proofs.Common.{◌≡◌, ℕ, ◌+◌, ◌<◌, false, List, [], ◌∷◌, ◌++◌, length, drop, reverse, None}
use Rattle.std.proofs.Common.{refl, subst, arith}
use Rattle.std.specs.Prelude.{All}
use Rattle.std.proofs.lemmas.List.{append_assoc, length-reverse}
use Rattle.std.proofs.lemmas.List.Elements.{All-cons, All-head, All-tail, All-weaker, All-drop}
use Rattle.vcode_base.specs.declared.op.Op.{Op}
use Rattle.vcode_base.specs.declared.op.Op.TheVariants.{Move, Return}
use Rattle.vcode_base.specs.Instructions.{op_of}
use Rattle.vcode_base.specs.Kinds.{result_kinds}
use Rattle.vcode_base.specs.Laws.{ResultsHaveNeededLengths}
use Rattle.vcode_base.specs.Meaning.{need, shape, value_fault}
use Rattle.vcode_reader.specs.Trees.{Item}
use Rattle.job_steps.specs.Counted.{ExecutedAreCounted, IsCounted, LastIsReturn, is_move, top_words}
use Rattle.job_steps.specs.Motions.{operand_count, stack_after}
use Rattle.job_steps.specs.Questions.{need_words}
use Rattle.job_steps.specs.States.{Vector, Task, StackEntry, Active, State, has_tag, held_words, new_entries, words_of}
use Rattle.job_steps.specs.Steps.{sources_of, question_of, results_of}
use Rattle.job_steps.specs.Tracks.{IsDeep}
use Rattle.job_steps.proofs.Bounds.{IsBounded, Went, bounded, shaped, went}
use Rattle.job_steps.proofs.Held.{total_words}
use Rattle.job_steps.proofs.Progresses.{item_of, calls_then, goes}
use Rattle.job_steps.proofs.StackLemmas.{deep_of, length-results, reverse-cons, total_reverse}

-- no entry below a tag has it
fresh : (tag : ℕ) (xs : List StackEntry) → All (λ e. e.tag < tag) xs → has_tag tag xs ≡ false
fresh tag [] below = refl
fresh tag (x ∷ xs) below = grind (arith, All-head, fresh tag xs (All-tail (λ e. e.tag < tag) x xs below))

-- new entries are held beside those below them
held_new : (next : ℕ) (vs : List Vector) (xs : List StackEntry) → All (λ e. e.tag < next) xs →
    held_words (reverse (new_entries next vs) ++ xs) ≡ total_words (new_entries next vs) + held_words xs
held_new next [] xs below = omega arith
held_new next (v ∷ vs) xs below =
    let e : StackEntry = record { tag = next; value = v } in
    let among : All (λ x. x.tag < next + 1) (e ∷ xs) = All-cons (λ x. x.tag < next + 1) e xs (omega arith)
    (All-weaker (λ x. x.tag < next) (λ x. x.tag < next + 1) (λ x h. omega (arith, h)) xs below) in
    let later = held_new (next + 1) vs (e ∷ xs) among in
    grind (arith, fresh next xs below, later, reverse-cons, append_assoc)

-- entries at the top, by their words
top_is : (xs ys : List StackEntry) → top_words (length xs) (words_of (xs ++ ys)) ≡ total_words xs
top_is [] ys = refl
top_is (x ∷ xs) ys = grind (arith, (top_is xs ys))

-- the results have as many words as are needed
total_is : ResultsHaveNeededLengths → (next : ℕ) (item : Item) (stack : List StackEntry) →
    IsDeep (op_of item) (length stack) → shape (op_of item) (sources_of item stack) ≡ None →
    value_fault (op_of item) (sources_of item stack) ≡ None →
    total_words (new_entries next (results_of (question_of item stack))) ≡ need_words (question_of item stack)
unfolding need
total_is law next item stack deep shaped valued = grind arith

-- ---- an instruction, whatever it is

first_by : (op : Op) (new stack : List StackEntry) → length new ≡ length (result_kinds op) →
    top_words (length (result_kinds op)) (words_of (stack_after op new stack)) ≡ total_words new
first_by (Move motion lower upper) [] stack long = refl
first_by (Move motion lower upper) (e ∷ new) stack long = grind arith
first_by op new stack long =
    let top = top_is (reverse new) (drop (operand_count op) stack) in
    grind (arith, top, length-reverse, total_reverse)

second_by : (op : Op) (next : ℕ) (vs : List Vector) (stack : List StackEntry) → All (λ e. e.tag < next) stack →
    is_move op ≡ false → held_words (stack_after op (new_entries next vs) stack)
    ≡ total_words (new_entries next vs) + held_words (drop (operand_count op) stack)
second_by (Move motion lower upper) next vs stack below moves = grind arith
second_by op next vs stack below moves =
    held_new next vs (drop (operand_count op) stack) (All-drop (λ e. e.tag < next) (operand_count op) stack below)

counted_by : ResultsHaveNeededLengths → (task : Task) (n : ℕ) (s next : State) → IsBounded task n s →
    (w : Went task s next) → IsCounted (item_of w.call) s next
counted_by law task n s next b w =
    let item = item_of w.call in
    let q = question_of item s.stack in
    let deep = deep_of task.verified item s.stack w.passes.runs in
    let total = total_is law s.next item s.stack deep (shaped task s w.call w.outer w.passes) w.passes.late in
    let first = first_by (op_of item) (new_entries s.next (results_of q)) s.stack (length-results s.next q) in
    let second = second_by (op_of item) s.next (results_of q) s.stack b.tags in
    record {
      first = rw (← w.new) (omega (arith, total, first));
      second = λ moves. rw (← w.new) (omega (arith, total, second moves));
    }

pub executed_are_counted : ResultsHaveNeededLengths → ExecutedAreCounted
executed_are_counted law task n s next here after call outer calls =
    let w = went task s next (rw here at after) in
    let same : w.call ≡ call = grind (arith, w.passes.calls) in
    subst (λ k. IsCounted (item_of k) s next) same (counted_by law task n s next (bounded law task n s here) w)

-- ---- the end

none_left : (task : Task) (s : State) (call : Active) (outer : List Active) → calls_then task s call outer ≡ [] →
    op_of (item_of call) ≡ Return
none_left task s call outer none = grind arith

pub last_is_return : LastIsReturn
last_is_return task n s here ending executed peak after counts call outer calls =
    let g = goes task s in
    grind (arith, here, after, none_left)
