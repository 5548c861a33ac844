-- The result of executing an instruction.
use Rattle.std.proofs.Common.{◌≡◌, ◌+◌, ◌<◌, ◌≤◌, ℕ, ℤ, List, [], ◌∷◌, length, refl, arith, ◌++◌, drop, reverse, ◌∙◌}
use Rattle.std.proofs.Common.{◌^◌, Bool, Some, None, get_or, ap, length-take, length-drop}
use Rattle.vcode_base.specs.declared.kind.Kind.{Kind}
use Rattle.vcode_base.specs.declared.op.Op.{Op}
use Rattle.vcode_base.specs.declared.rule.Rule.{Rule}
use Rattle.refcounts.specs.SharedState.{empty_slot, slot_at, SharedState, IsTidy, IsLive, AreNamed, state_after_release}
use Rattle.refcounts.specs.SharedState.{state_after_releases, Slot, occurrences}
use Rattle.job_memory.specs.JobBlocks.{JobBlocks, with_block, ChangesOnlyOf, own_slots}
use Rattle.job_steps.specs.States.{Vector, StackEntry, new_entries, State, Task, Active}
use Rattle.job_steps.specs.Steps.{vectors_of, held_at, Running, next_item, sources_of, question_of, results_of, flag_of}
use Rattle.job_steps.specs.Steps.{words_at, calls_after, progress_by, progress_past}
use Rattle.job_slots.specs.Commits.{IsExchanged, blocks_after_taking, taken_ids, moved_ids, with_releases, CanTake}
use Rattle.job_slots.specs.Commits.{held_under}
use Rattle.job_slots.specs.Executions.{AreExchanged, AreFew, BlockLaws, CanExchange, CanExecute, CanShare}
use Rattle.job_slots.specs.Executions.{HasExchanged, HeldIsCounted, IsCounted, IsExecuted, StepsExecute}
use Rattle.job_slots.specs.Holdings.{Cell, ids_of, entries_of, AreHeld, HoldStack}
use Rattle.std.specs.Prelude.{All}
use Rattle.std.proofs.lemmas.List.{append_assoc, drop-map, get_or-map, length-map, length-reverse}
use Rattle.std.proofs.Math.Seq.{drop-append_seam, take-append_seam}
use Rattle.std.proofs.lemmas.List.Elements.{All-cons, All-append, All-drop, All-take}
use Rattle.vcode_base.specs.declared.op.Op.TheVariants.{Move, Return}
use Rattle.vcode_base.specs.declared.op.StackMove.{StackMove}
use Rattle.vcode_base.specs.declared.op.StackMove.TheVariants.{Copy, Pop, MoveToTop}
use Rattle.vcode_base.specs.declared.rule.Rule.TheVariants.{First, Second}
use Rattle.vcode_base.specs.Kinds.{result_kinds}
use Rattle.job_steps.specs.Motions.{top_entries, operand_count, stack_after, stack_after_move}
use Rattle.job_slots.proofs.Stacks.{All-move, map-top, map-lower, reverse-cons, times, times_append, times_reverse}
use Rattle.job_slots.proofs.Stacks.{times_top, map-stack_after, two_results, length_by_kinds, return_leaves}
use Rattle.job_slots.proofs.Stacks.{All-reverse}
use Rattle.job_slots.proofs.Cells.{Among, IsPlaced, IsReleased, IsShared, placed_one, released, shared}
use Rattle.job_slots.proofs.Cells.{held_is_stack, own_are_tidy, named_here, named_sum, own_named, listed, seen_there}
use Rattle.vcode_base.specs.Instructions.{op_of}
use Rattle.vcode_reader.specs.Trees.{Item}
use Rattle.refcounts.specs.Laws.{ReleasesAreCounted, ReleaseStaysTidy}
use Rattle.std.proofs.lemmas.Bool.Decides.{nat_tests}
use Rattle.std.proofs.lemmas.Grind.{common_steps}
use Rattle.std.proofs.lemmas.List.Sums.{count_by-le-length}
use Rattle.vcode_base.specs.Laws.{ResultsHaveNeededLengths}
use Rattle.vcode_base.specs.Meaning.{value_fault}
use Rattle.signatures.specs.Signatures.{Signature}
use Rattle.job_steps.specs.declared.flow.Flow.{Flow}
use Rattle.job_steps.specs.Flows.{IsFlowOf, flow_by, flow_of}
use Rattle.job_steps.specs.EventLaws.{OthersAreReady}
use Rattle.job_steps.specs.Events.{early_end}
use Rattle.job_steps.specs.Questions.{Question}
use Rattle.job_steps.specs.Reached.{Reaches, IsReached, IsVerifiedTask}
use Rattle.job_steps.specs.Runs.{state_after}
use Rattle.job_steps.specs.StepLaws.{CanAdvance, StepsCanAdvance}
use Rattle.job_steps.specs.Tickets.{AreResults}
use Rattle.job_steps.specs.Tracks.{TrackState, IsAt, IsWhere, Advances, EachTrackFollows}
use Rattle.job_slots.specs.Answers.{question_at}
use Rattle.job_slots.specs.Slots.{IsAfter}

-- ======== results that were placed as blocks, and the cells that name them

-- the results, from the bottom up, were placed one after another as new blocks of a job
abbrev pub ArePlaced : ℕ → List Cell → JobBlocks → JobBlocks → Type 0
ArePlaced job [] old new = new ≡ old
ArePlaced job (cell ∷ cells) old new =
    (cell.id < length old.memory.slots) × (slot_at old.memory cell.id ≡ empty_slot) × ArePlaced job cells
    (with_block old job cell.id cell.entry.value.words) new

-- the operands of an instruction are taken off the stack, whose cells name the blocks of these numbers, and these cells
-- hold its results
abbrev pub AreCommitted : Rule → ℕ → Op → List ℕ → List Cell → JobBlocks → JobBlocks → Type 0
AreCommitted rule job op stack [] old new = new ≡ blocks_after_taking op stack old
AreCommitted rule job op stack (cell ∷ cells) old new =
    (between : JobBlocks) × IsExchanged rule job (taken_ids op stack) cell.id cell.entry.value.words old between ×
    ArePlaced job cells between new

-- the cells that name the blocks of results, which are entries with the next tags
pub record NewCells (rule : Rule) (job : ℕ) (op : Op) (stack ids : List ℕ) (next : ℕ) (values : List Vector)
    (old new : JobBlocks) : Type 0 where
  pub cells : List Cell
  pub ids_are : ids_of cells ≡ ids
  pub entries_are : entries_of cells ≡ new_entries next values
  pub count : length cells ≡ length ids
  pub are_committed : AreCommitted rule job op stack cells old new

module _ (rule : Rule) (job : ℕ) (op : Op) (stack : List ℕ) (first second : List ℤ) (next : ℕ) (old new : JobBlocks)
  where
    pub new_cells : (kinds : List Kind) (ids : List ℕ) → length ids ≡ length kinds → length kinds ≤ 2 →
        AreExchanged rule job op first second stack ids old new →
        NewCells rule job op stack ids next (vectors_of kinds (first ∷ second ∷ [])) old new
    new_cells [] [] same few exchanged = grind arith
    new_cells (k ∷ []) (id ∷ []) same few exchanged =
        let entry : StackEntry = record { tag = next; value = record { kind = k; words = first } } in
        record {
          cells = record { id = id; entry = entry } ∷ [];
          ids_are = refl;
          entries_are = refl;
          count = refl;
          are_committed = (new, exchanged, refl);
        }
    new_cells (k ∷ l ∷ []) (below ∷ top ∷ []) same few exchanged =
        let lower : StackEntry = record { tag = next; value = record { kind = k; words = first } } in
        let upper : StackEntry = record { tag = next + 1; value = record { kind = l; words = second } } in
        record {
          cells = record { id = below; entry = lower } ∷ record { id = top; entry = upper } ∷ [];
          ids_are = refl;
          entries_are = refl;
          count = refl;
          are_committed = (exchanged.0, exchanged.1, (exchanged.2, exchanged.3, exchanged.4));
        }
    new_cells kinds ids same few exchanged = absurd (omega (arith, same, few))

-- an instruction changes no grant
pub same_grants : (op : Op) (ids : List ℕ) (blocks : JobBlocks) →
    (blocks_after_taking op ids blocks).grants ≡ blocks.grants
same_grants op ids blocks = grind arith

-- ======== what an instruction that is executed does to a job's cells and blocks

-- what an instruction takes off the stack can be taken, and what it leaves if it has no results
pub record CanCommit (job : ℕ) (op : Op) (old : JobBlocks) (cells : List Cell) : Type 0 where
  pub can_take : CanTake job op (ids_of cells) old
  pub held : AreHeld (own_slots job (blocks_after_taking op (ids_of cells) old)) (stack_after op [] cells)
  pub others : ChangesOnlyOf job old (blocks_after_taking op (ids_of cells) old)

-- ---- the results are placed

-- the tag of a cell's entry is below the next one
abbrev pub IsOlder : ℕ → Cell → Type 0
IsOlder next c = c.entry.tag < next

reverse_onto : (c : Cell) (news cells : List Cell) → reverse (c ∷ news) ++ cells ≡ reverse news ++ (c ∷ cells)
reverse_onto c news cells = grind (arith, reverse-cons, append_assoc)

still_older : (next : ℕ) (c : Cell) (cells : List Cell) → c.entry.tag ≡ next → All (IsOlder next) cells →
    All (IsOlder (next + 1)) (c ∷ cells)
still_older next c cells tag older =
    All-cons (IsOlder (next + 1)) c cells (omega (arith, tag)) (λ k d below. omega (arith, older k d below))

-- the results that are placed on top of one that was
placed_all : BlockLaws → (job : ℕ) (old placed between : JobBlocks) (c : Cell) (news kept : List Cell)
    (values : List Vector) (next : ℕ) → IsPlaced job old between (c ∷ kept) → All (IsOlder next) (c ∷ kept) →
    entries_of news ≡ new_entries next values → ArePlaced job news between placed →
    IsPlaced job old placed (reverse (c ∷ news) ++ kept)
placed_all laws job old placed between c [] kept values next one older e are = rw are one
placed_all laws job old placed between c (d ∷ news) kept [] next one older e are = cc
placed_all laws job old placed between c (d ∷ news) kept (v ∷ vs) next one older e are =
    let tag : d.entry.tag ≡ next = cc in
    let rest : entries_of news ≡ new_entries (next + 1) vs = cc in
    rw (reverse_onto c (d ∷ news) kept) (placed_all laws job old placed _ d news (c ∷ kept) vs (next + 1) (record {
      held = placed_one job between.memory d (c ∷ kept) are.0 are.1 one.held
          (λ k x below. omega (arith, older k x below, tag));
      others = (laws.changes_join job).both old between _ one.others
          (laws.blocks_change_only_their_job between job d.id d.entry.value.words are.0 are.1);
    }) (still_older next d (c ∷ kept) tag older) rest are.2)

-- ---- what is taken is released

-- `n` cells are taken off the stack, and those in front stay on the others
pushed : (laws : BlockLaws) (job : ℕ) (old placed : JobBlocks) (n : ℕ) (front cells : List Cell) →
    IsPlaced job old placed (front ++ cells) →
    IsReleased job old placed (top_entries n (ids_of cells)) (front ++ drop n cells)
pushed laws job old placed n front cells is =
    rw (← map-top _ n _) (released laws job old placed (front ++ cells) is _ _ among split)
  where
    among : Among (front ++ drop n cells) (front ++ cells)
    among P all =
        let left = All-take P (length front) (front ++ cells) all in
        let right = All-drop P (length front) (front ++ cells) all in
        All-append P front (drop n cells) (rw take-append_seam at left)
        (All-drop P n cells (rw drop-append_seam at right))

    split : (id : ℕ) → times id (front ++ drop n cells) + times id (top_entries n cells) ≡ times id (front ++ cells)
    split id =
        omega (arith, times_append id front (drop n cells), times_append id front cells, times_top id n cells)

-- ---- without results

module _ (laws : BlockLaws) (job : ℕ) (old : JobBlocks) (cells : List Cell) (held : AreHeld (own_slots job old) cells)
  where
    as_it_was : IsPlaced job old old cells
    as_it_was = record { held = held; others = (laws.changes_join job).none old }

    module _ (lower upper : ℕ) where
      abbrev low : List Cell
      low = top_entries lower (drop upper cells)

      abbrev after : StackMove → List Cell
      after motion = stack_after_move motion lower upper cells

      moved : (motion : StackMove) → Among (after motion) cells
      moved motion P all = All-move P motion lower upper cells all

      -- each cell is below, or among those that are moved
      parts : (id : ℕ) → times id (top_entries upper cells) + (times id low + times id (drop lower (drop upper cells)))
          ≡ times id cells
      parts id = omega (arith, times_top id upper cells, times_top id lower (drop upper cells))

      popped : IsReleased job old old (moved_ids lower upper (ids_of cells)) (after Pop)
      popped =
          rw (← map-lower (λ (c : Cell). c.id) lower upper cells)
          (released laws job old old cells as_it_was (after Pop) low (moved Pop)
          (λ id. omega (arith, times_append, times_reverse, parts id)))

      turned : IsReleased job old old [] (after MoveToTop)
      turned =
          released laws job old old cells as_it_was (after MoveToTop) [] (moved MoveToTop)
          (λ id. omega (arith, times_append id, times_reverse id, parts id))

      copied : IsShared job old old (moved_ids lower upper (ids_of cells)) (after Copy)
      copied =
          rw (← map-lower (λ (c : Cell). c.id) lower upper cells)
          (shared laws job old old cells as_it_was (after Copy) low (moved Copy) (λ id. omega (arith, parts id))
          (λ id. omega (arith, times_append, times_reverse, parts id)))

    -- the operands are the job's, and without them the other cells hold theirs
    pub without_top : (n : ℕ) → IsReleased job old old (top_entries n (ids_of cells)) (drop n cells)
    without_top n = pushed laws job old old n [] cells as_it_was

    pub can_commit : (op : Op) → CanCommit job op old cells
    can_commit (Move Copy lower upper) = assumption (copied lower upper)
    can_commit (Move Pop lower upper) = assumption (popped lower upper)
    can_commit (Move MoveToTop lower upper) = assumption (turned lower upper)
    can_commit op = assumption (without_top (operand_count op))

-- ---- with results

-- the cells without the operands' hold theirs when a new block comes in their place, in either order
exchanged_one : BlockLaws → (rule : Rule) (job n : ℕ) (old between : JobBlocks) (cells : List Cell) (c : Cell) →
    AreHeld (own_slots job old) cells → All (IsOlder c.entry.tag) cells →
    IsExchanged rule job (top_entries n (ids_of cells)) c.id c.entry.value.words old between →
    IsPlaced job old between (c ∷ drop n cells)
exchanged_one laws First job n old between cells c held older is =
    let r = pushed laws job old (with_block old job c.id c.entry.value.words) n (c ∷ []) cells (record {
      held = placed_one job old.memory c cells is.within is.free held older;
      others = laws.blocks_change_only_their_job old job c.id c.entry.value.words is.within is.free;
    }) in
    rw is.exchanged (record { held = r.held; others = r.others })
exchanged_one laws Second job n old between cells c held older is =
    let r = without_top laws job old cells held n in
    let fewer : JobBlocks = with_releases (top_entries n (ids_of cells)) old in
    let within : c.id < length fewer.memory.slots = omega (arith, is.within, r.others.memory.ids) in
    rw is.exchanged (record {
      held = placed_one job fewer.memory c (drop n cells) within is.free r.held
          (All-drop (IsOlder c.entry.tag) n cells older);
      others = (laws.changes_join job).both old fewer _ r.others
          (laws.blocks_change_only_their_job fewer job c.id c.entry.value.words within is.free);
    })

-- an instruction with results pushes them
pushes : (op : Op) (news cells : List Cell) → 0 < length (result_kinds op) →
    reverse news ++ drop (operand_count op) cells ≡ stack_after op news cells
pushes op news cells some = grind arith

-- the blocks after an instruction hold what it leaves
pub placed_by : BlockLaws → (rule : Rule) (job : ℕ) (op : Op) (old new : JobBlocks) (cells news : List Cell) (next : ℕ)
    (values : List Vector) → AreHeld (own_slots job old) cells → All (IsOlder next) cells →
    entries_of news ≡ new_entries next values → length news ≡ length (result_kinds op) →
    AreCommitted rule job op (ids_of cells) news old new → IsPlaced job old new (stack_after op news cells)
placed_by laws rule job op old new cells [] next values held older entries count are =
    let can = can_commit laws job old cells held op in
    rw are (record { held = can.held; others = can.others })
placed_by laws rule job op old new cells (c ∷ news) next [] held older entries count are = cc
placed_by laws rule job op old new cells (c ∷ news) next (v ∷ vs) held older entries count are =
    let n = operand_count op in
    let tag : c.entry.tag ≡ next = cc in
    let rest : entries_of news ≡ new_entries (next + 1) vs = cc in
    let one = exchanged_one laws rule job n old are.0 cells c held
    (λ k d below. omega (arith, older k d below, tag)) are.1 in
    rw (← pushes op (c ∷ news) cells (omega (arith, count))) (placed_all laws job old new are.0 c news (drop n cells) vs
    (next + 1) one (still_older next c (drop n cells) tag (All-drop (IsOlder next) n cells older)) rest are.2)

-- ======== what counts as held while an instruction's results are made

-- a memory stays tidy when references are released
tidy_after : ReleaseStaysTidy → ReleasesAreCounted → (memory : SharedState) (ids : List ℕ) → AreNamed memory ids →
    IsTidy memory → IsTidy (state_after_releases memory ids)
tidy_after stays counted memory [] named tidy = tidy
tidy_after stays counted memory (id ∷ ids) named tidy =
    let live : IsLive memory id = omega (arith, named id, named_here id ids) in
    let first : AreNamed memory (id ∷ []) = λ k. omega (arith, named k, named_sum k id ids) in
    tidy_after stays counted (state_after_release memory id) ids
    (λ k. omega (arith, counted memory (id ∷ []) k first, named k, named_sum k id ids)) (stays memory id live tidy)

counted_by : BlockLaws → (rule : Rule) (job : ℕ) (blocks : JobBlocks) (item : Item) (s : State) (ids : List ℕ) →
    HoldStack (own_slots job blocks) ids s.stack → IsTidy blocks.memory →
    held_under rule job (op_of item) ids blocks ≡ held_at rule item s
counted_by laws First job blocks item s ids holds tidy = grind (arith, held_is_stack, own_are_tidy)
counted_by laws Second job blocks item s ids holds tidy =
    let n = operand_count (op_of item) in
    let taken : List ℕ = top_entries n (ids_of holds.cells) in
    let is = without_top laws job blocks holds.cells holds.held n in
    let tidy_then : IsTidy (with_releases taken blocks).memory = tidy_after laws.release_stays_tidy
    laws.releases_are_counted blocks.memory taken (own_named job blocks.memory taken is.own) tidy in
    rw (holds.ids_are, holds.entries_are, drop-map) (held_is_stack (own_slots job (with_releases taken blocks))
    (drop n holds.cells) is.held (own_are_tidy job (with_releases taken blocks).memory tidy_then))

pub held_is_counted : BlockLaws → HeldIsCounted
held_is_counted laws rule job blocks item s ids holds tidy = record {
  own = rw holds.ids_are (without_top laws job blocks holds.cells holds.held (operand_count (op_of item))).own;
  held = counted_by laws rule job blocks item s ids holds tidy;
}

-- ======== the result of executing the next instruction of a job whose step is in flight

-- the laws of steps and of blocks
pub record Laws : Type 0 where
  pub others_are_ready : OthersAreReady
  pub reached : Reaches
  pub each_track_follows : EachTrackFollows ℕ
  pub steps_can_advance : StepsCanAdvance ℕ
  pub results_have_needed_lengths : ResultsHaveNeededLengths
  pub blocks : BlockLaws

-- ---- what is copied

-- the blocks that a motion copies have as few references as there are cells
few_moved : (job : ℕ) (old : JobBlocks) (cells : List Cell) → AreHeld (own_slots job old) cells →
    length (ids_of cells) + length (ids_of cells) < 2 ^ 64 → (lower upper : ℕ) →
    AreFew old (moved_ids lower upper (ids_of cells))
few_moved job old cells held small lower upper k d below =
    let ids = ids_of cells in
    let id = get_or (moved_ids lower upper ids) k d in
    let P : ℕ → Type 0 = λ id. 0 < occurrences id ids in
    let some = All-reverse P _ (All-take P lower _ (All-drop P upper ids (listed ids))) k d below in
    let seen = ap (λ (slot : Slot). slot.count) (seen_there job old.memory id (omega (arith, held.counts id, some))) in
    let most : occurrences id ids ≤ length ids = count_by-le-length _ ids in
    let part : length (moved_ids lower upper ids) ≤ length ids = simp (length-reverse, length-take, length-drop)
    (omega arith) in
    omega (arith, held.counts id, seen, most, part, small)

share_room : (job : ℕ) (old : JobBlocks) (cells : List Cell) → AreHeld (own_slots job old) cells →
    length (ids_of cells) + length (ids_of cells) < 2 ^ 64 → (op : Op) → CanShare op (ids_of cells) old
share_room job old cells held small (Move Copy lower upper) = few_moved job old cells held small lower upper
share_room job old cells held small op = tt

-- ---- the state of the job

-- the track and the blocks are at the job's state, if the track is and the cells hold the stack
is_after : (slots : List Slot) (task : Task) (u : TrackState ℕ) (item : Item) (s : State) (calls : List Active) →
    state_after task s.executed ≡ Running s → (calls ≡ [] → op_of item ≡ Return) →
    IsWhere task u (progress_past task.rule item s calls) →
    HoldStack slots u.cells (stack_after (op_of item) (new_entries s.next (results_of (question_of item s.stack)))
    s.stack) → IsAfter slots task u (progress_past task.rule item s calls)
is_after slots task u item s calls running leaves where_is holds = grind arith

-- ---- the question

pub asked_is : (task : Task) (n : ℕ) (s : State) (call : Active) (outer : List Active) (question : Question) →
    state_after task n ≡ Running s → s.calls ≡ call ∷ outer → question_at task n ≡ Some question →
    question_of (next_item call).item s.stack ≡ question
unfolding question_at
asked_is task n s call outer question running calls asked = grind arith

-- the flow of an instruction, whatever the flag of an IF
is_flow_of : (op : Op) (flag : Bool) → IsFlowOf op (flow_by op flag)
is_flow_of op flag = grind arith

-- ---- one step in flight

module _ (laws : Laws) (signatures : List Signature) (task : Task) (verified : IsVerifiedTask signatures task) (job : ℕ)
    (old : JobBlocks) (t : TrackState ℕ) (s : State)
    (running : state_after task t.executed ≡ Running s) (at : IsAt task t s)
    (holds : HoldStack (own_slots job old) t.cells s.stack) (early : early_end task s ≡ None)
    (tidy : IsTidy old.memory) (call : Active) (outer : List Active) (calls : s.calls ≡ call ∷ outer)
    (first second : List ℤ) (results : AreResults (question_of (next_item call).item s.stack) first second)
    (next : state_after task (t.executed + 1) ≡ progress_by task.rule
    (value_fault (op_of (next_item call).item) (sources_of (next_item call).item s.stack)) (next_item call) s
    (calls_after task.verified (flag_of (question_of (next_item call).item s.stack)) call.rest call.ret outer)) where
  abbrev item : Item
  item = (next_item call).item

  abbrev op : Op
  op = op_of item

  abbrev flow : Flow
  flow = flow_of (question_of item s.stack)

  can : CanAdvance task s t item
  can = laws.steps_can_advance signatures task verified t.executed s t running at early call outer calls

  is_reached : IsReached signatures task t.executed s
  is_reached = laws.reached signatures task verified t.executed s running

  counted : IsCounted task.rule job old item s t.cells
  counted = held_is_counted laws.blocks task.rule job old item s t.cells holds tidy

  -- the words that are held and needed
  words_are : words_at task.rule item s ≡ held_under task.rule job op t.cells old + length first + length second
  words_are = grind (arith, common_steps, can, length_by_kinds, counted)

  tags : All (λ c. c.entry.tag < s.next) holds.cells
  tags k d below =
      let count = ap length holds.entries_are in
      rw (← get_or-map (λ (c : Cell). c.entry) holds.cells k d d.entry below, ← holds.entries_are)
      (is_reached.tags k d.entry (omega (arith, count, length-map holds.cells (λ (c : Cell). c.entry), below)))

  -- the results as entries
  values_are : vectors_of (result_kinds op) (first ∷ second ∷ []) ≡ results_of (question_of item s.stack)
  values_are = grind (arith, op, item)

  can_exchange : CanExchange job op t.cells old
  can_exchange =
      let n = length (ids_of holds.cells) in
      let small : n + n < 2 ^ 64 =
      omega (arith, at.cells, ap length holds.ids_are, is_reached.cells, task.limits.cells_in_range.1) in
      record {
        deep = can.deep;
        own = counted.own;
        can_take = rw holds.ids_are (can_commit laws.blocks job old holds.cells holds.held op).can_take;
        can_share = rw holds.ids_are (share_room job old holds.cells holds.held small op);
      }

  module _ (form : Rule) (ids : List ℕ) (new : JobBlocks) (u : TrackState ℕ)
      (has : HasExchanged form job op first second t.cells ids old new)
      (advances : Advances task.verified op flow ids
      (held_under task.rule job op t.cells old + length first + length second) t u) where
    made : NewCells form job op t.cells ids s.next (vectors_of (result_kinds op) (first ∷ second ∷ [])) old new
    made = grind (arith, new_cells, op, two_results)

    commits : IsPlaced job old new (stack_after op made.cells holds.cells)
    commits =
        placed_by laws.blocks form job op old new holds.cells made.cells s.next
        (vectors_of (result_kinds op) (first ∷ second ∷ [])) holds.held tags made.entries_are (made.count ∙ has.given)
        (rw (← holds.ids_are) made.are_committed)

    now_holds : HoldStack (own_slots job new) u.cells
        (stack_after op (new_entries s.next (results_of (question_of item s.stack))) s.stack)
    now_holds = grind (arith, common_steps, made, map-stack_after, values_are, commits)

    executed : IsExecuted job old new task t u
    executed =
        let where_is = laws.each_track_follows task t u s call outer ids at calls (rw at.cells at can.deep) has.given
        (rw words_are advances) in
        grind (arith, nat_tests, is_after, return_leaves, now_holds, commits)

  can_execute : CanExecute job old task t op flow first second
  can_execute = record {
    two = two_results op;
    room = omega (arith, can.room, words_are);
    can_exchange = can_exchange;
    goes_past = record { unspent = can.unspent; deep = can.deep; cells = can.cells; follows = can.follows };
    flows = is_flow_of op (flag_of (question_of item s.stack));
    executes = executed;
  }

pub executable : Laws → StepsExecute
executable laws job old task t op flow first second flying verified tidy answered =
    let run = flying.run in
    let ready = laws.others_are_ready verified.0 task verified.1 t.executed run.state run.running flying.goes_on in
    let same = asked_is _ _ _ _ _ _ run.running ready.calls answered.asked in
    let found = can_execute laws verified.0 task verified.1 job old t run.state run.running run.at run.holds
    flying.goes_on tidy ready.call ready.outer ready.calls first second (rw same answered.results) ready.next in
    rw (answered.op_is, answered.flow_is, ← same) found

-- the instruction is executed if blocks have its results and the track went past it
pub executed_past : {job : ℕ} {old new : JobBlocks} {task : Task} {t u : TrackState ℕ} {op : Op} {flow : Flow}
    {first second : List ℤ} {form : Rule} {ids : List ℕ} {held : ℕ} → CanExecute job old task t op flow first second →
    HasExchanged form job op first second t.cells ids old new → held ≡ held_under task.rule job op t.cells old →
    Advances task.verified op flow ids (held + length first + length second) t u → IsExecuted job old new task t u
executed_past can has held_is advances = can.executes _ _ _ _ has (rw (← held_is) advances)
