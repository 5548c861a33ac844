-- Results that are computed where they are placed, in the place of the operands.
use Rattle.std.proofs.lemmas.Grind.{common_steps}
use Rattle.std.proofs.Common.{◌≡◌, ◌≢◌, ◌∙◌, ◌+◌, ◌<◌, ◌≤◌, ℕ, ℤ, List, [], ◌∷◌, length, refl, sym, ap, arith, true}
use Rattle.std.proofs.Common.{get_or, map, Bool, false, None, length-take}
use Rattle.std.specs.Prelude.{◌==◌, All, slice_index_or}
use Rattle.std.proofs.lemmas.Bool.{cases_eq}
use Rattle.std.proofs.lemmas.Bool.Decides.{nat_tests}
use Rattle.std.proofs.lemmas.List.{get_or-set_other, set_comm, set-set, get_or-set_same, length-set, get_or_default}
use Rattle.std.proofs.lemmas.List.{length-map, reverse-reverse, length-reverse}
use Rattle.vcode_base.specs.declared.op.Op.{Op}
use Rattle.vcode_base.specs.declared.rule.Rule.{Rule}
use Rattle.vcode_base.specs.declared.rule.Rule.TheVariants.{Second}
use Rattle.refcounts.specs.Laws.{ReleasesOnlyFree}
use Rattle.refcounts.specs.SharedState.{Slot, SharedState, empty_slot, slot_at, with_slot, lowered_slot, block_count}
use Rattle.refcounts.specs.SharedState.{AreLive, new_slot, occurrences, state_after_release, state_after_releases}
use Rattle.refcounts.specs.SharedState.{slot_in, IsTidy}
use Rattle.job_memory.specs.JobBlocks.{JobBlocks, AreOwn, held_words, with_block, with_memory, grant_of, own_slots}
use Rattle.job_memory.specs.Laws.{ReleasesChangeOnlyTheirJob, BlocksChangeOnlyTheirJob, ChangesJoin}
use Rattle.job_slots.specs.Commits.{IsExchanged, blocks_beside, held_under, taken_ids, with_releases}
use Rattle.job_slots.specs.InPlace.{words_by, KeepsReferences, with_third, AreComputed, CanCompute, IsPlaceable}
use Rattle.job_slots.specs.InPlace.{is_constant, operands_in, result_count}
use Rattle.job_slots.proofs.Cells.{listed, named_here, named_more, own_named, adds_block, own_slot, placed_there}
use Rattle.job_slots.proofs.Cells.{none_here, named_other, named_sum, own_count, placed_here, are_there}
use Rattle.std.proofs.lemmas.List.Elements.{All-map, All-append, All-take, All-drop}
use Rattle.job_slots.specs.Holdings.{Cell, ids_of, entries_of, AreAlike, HoldSomeStack}
use Rattle.job_slots.specs.Slots.{SlotState, IsActive, MayEnd, Shows, IsRunningSlot}
use Rattle.job_steps.specs.States.{Task}
use Rattle.std.proofs.Math.ListN.{get_or-map}
use Rattle.vcode_base.specs.declared.kind.Scalar.{Scalar}
use Rattle.vcode_base.specs.declared.op.Op.TheVariants.{Segmented as SegmentedOp}
use Rattle.vcode_base.specs.declared.op.Segmented.TheVariants.{DefaultPermute}
use Rattle.vcode_base.specs.Instructions.{op_of}
use Rattle.vcode_base.specs.Kinds.{HaveKinds, source_kinds, result_kinds}
use Rattle.vcode_base.specs.Laws.{ResultsHaveNeededLengths}
use Rattle.vcode_base.specs.Meaning.{shape, need}
use Rattle.vcode_reader.specs.Trees.{Item}
use Rattle.refcounts.specs.Making.{words_at}
use Rattle.job_slots.specs.Executions.{HeldIsCounted}
use Rattle.job_steps.specs.declared.flow.Flow.TheVariants.{Next}
use Rattle.job_steps.specs.EventLaws.{IsVerified}
use Rattle.job_steps.specs.Flows.{flow_by}
use Rattle.job_steps.specs.Questions.{Question}
use Rattle.job_steps.specs.StepLaws.{CanBegin, StepsCanBegin}
use Rattle.job_steps.specs.Steps.{next_item, question_of}
use Rattle.job_steps.specs.Tickets.{AreResults, question_by}
use Rattle.job_steps.specs.Tracks.{TrackState}
use Rattle.job_slots.specs.Answers.{IsNext}
use Rattle.job_slots.proofs.NextSteps.{can_begin, same_question, read_on_top}
use Rattle.job_slots.proofs.Stacks.{length_by_kinds, deep_enough, same_top, few_operands}

-- ======== a new block in the place of an instruction's operands

-- ---- what a release lowers

-- the words and the blocks are no more, and the numbers are the same
pub record IsLower (job : ℕ) (old new : JobBlocks) : Type 0 where
  pub held : held_words job new ≤ held_words job old
  pub count : block_count new.memory ≤ block_count old.memory
  pub numbers : length new.memory.slots ≡ length old.memory.slots

-- the laws of what is released
pub record ReleaseLaws : Type 0 where
  pub only_free : ReleasesOnlyFree
  pub only_their_job : ReleasesChangeOnlyTheirJob

pub lower : ReleaseLaws → (job : ℕ) (blocks : JobBlocks) (ids : List ℕ) → AreOwn job blocks ids →
    IsLower job blocks (with_releases ids blocks)
lower laws job blocks ids own =
    let free = laws.only_free blocks.memory ids (own_named job blocks.memory ids own) in
    let changes = laws.only_their_job blocks job ids own in
    grind (arith, changes.memory.balance (λ slot. length slot.words))

-- ---- a block that is placed takes none of the operands

pub own_still : (job : ℕ) (old placed : JobBlocks) (id : ℕ) (words : List ℤ) (taken : List ℕ) →
    slot_at old.memory id ≡ empty_slot → placed ≡ with_block old job id words → AreOwn job old taken →
    AreOwn job placed taken
own_still job old placed id words taken empty is own = grind (arith, cases_eq, none_here, own_slot, placed_there)

-- ---- the exchange

-- a number at some place of a list is listed
pub named_at : (ids : List ℕ) (place id : ℕ) → place < length ids → id ≡ get_or ids place id → 1 ≤ occurrences id ids
named_at ids place id within is = rw is (listed ids place id within)

-- a job's own blocks are there
pub own_are_live : (job : ℕ) (blocks : JobBlocks) (ids : List ℕ) → AreOwn job blocks ids → AreLive blocks.memory ids
own_are_live job blocks ids own k d below =
    omega (arith, own_named job blocks.memory ids own (get_or ids k d), listed ids k d below)

-- ---- placed while the operands are there, whatever the rule

other_than : (id first : ℕ) (ids : List ℕ) → occurrences id (first ∷ ids) ≡ 0 → first ≢ id
other_than id first ids none e = absurd (omega (arith, rw e at none, named_here id ids))

none_after : (id first : ℕ) (ids : List ℕ) → occurrences id (first ∷ ids) ≡ 0 → occurrences id ids ≡ 0
none_after id first ids none = omega (arith, none, named_more id first ids)

-- a number that is not among those that are released keeps its slot
released_apart : (memory : SharedState) (id : ℕ) (ids : List ℕ) → occurrences id ids ≡ 0 →
    slot_at (state_after_releases memory ids) id ≡ slot_at memory id
released_apart memory id [] none = refl
released_apart memory id (first ∷ ids) none =
    released_apart (state_after_release memory first) id ids (none_after id first ids none) ∙ get_or-set_other
    memory.slots first id (lowered_slot (slot_at memory first)) empty_slot (λ e. other_than id first ids none (sym e))

abbrev of_slots : SharedState → List Slot → SharedState
of_slots memory slots = record { room = memory.room; slots = slots }

-- it may be written before the releases or after them
written_apart : (memory : SharedState) (id : ℕ) (slot : Slot) (ids : List ℕ) → occurrences id ids ≡ 0 →
    state_after_releases (with_slot memory id slot) ids ≡ with_slot (state_after_releases memory ids) id slot
written_apart memory id slot [] none = refl
written_apart memory id slot (first ∷ ids) none =
    let apart : first ≢ id = other_than id first ids none in
    let same : slot_at (with_slot memory id slot) first ≡ slot_at memory first =
    get_or-set_other memory.slots id first slot empty_slot apart in
    let once : state_after_release (with_slot memory id slot) first ≡ with_slot (state_after_release memory first) id
    slot = rw same (ap (of_slots memory)
    (set_comm memory.slots id first slot (lowered_slot (slot_at memory first)) (λ e. apart (sym e)))) in
    rw once (written_apart (state_after_release memory first) id slot ids (none_after id first ids none))

-- a result in the place of operands, which may as well have gone before, and the words that count as held and needed
pub record HasReplaced (rule : Rule) (job : ℕ) (taken : List ℕ) (id : ℕ) (words : List ℤ) (old new : JobBlocks) : Type 0
  where
    pub is : IsExchanged Second job taken id words old new
    pub exchanged : (form : Rule) × IsExchanged form job taken id words old new
    pub counted : words_by rule (held_words job old + length words) (held_words job new)
        ≡ held_words job (blocks_beside rule taken old) + length words
    pub held : held_words job new ≤ held_words job (blocks_beside rule taken old) + length words
    pub count : block_count new.memory ≤ block_count old.memory + 1
    pub numbers : length new.memory.slots ≡ length old.memory.slots
    pub grants : new.grants ≡ old.grants

pub released_and_placed : ReleaseLaws → (rule : Rule) (job : ℕ) (taken ids : List ℕ) (id : ℕ) (words : List ℤ)
    (old new : JobBlocks) → id < length old.memory.slots →
    slot_at (state_after_releases old.memory ids) id ≡ empty_slot → ids ≡ taken →
    new ≡ with_block (with_releases ids old) job id words → AreOwn job old taken →
    HasReplaced rule job taken id words old new
released_and_placed laws rule job taken ids id words old new within empty ids_are new_is own =
    let less = lower laws job old taken own in
    let free = rw ids_are at empty in
    let adds = adds_block job (state_after_releases old.memory taken) id (new_slot job words)
    (omega (arith, within, less.numbers)) free refl refl in
    let is : IsExchanged Second job taken id words old (with_block (with_releases taken old) job id words) =
    record { within = within; free = free; exchanged = refl } in
    grind (arith, nat_tests)

pub placed_and_released : ReleaseLaws → (rule : Rule) (job : ℕ) (taken ids : List ℕ) (id : ℕ) (words : List ℤ)
    (old placed new : JobBlocks) → id < length old.memory.slots → slot_at old.memory id ≡ empty_slot →
    placed ≡ with_block old job id words → ids ≡ taken → new ≡ with_releases ids placed → AreOwn job old taken →
    HasReplaced rule job taken id words old new
placed_and_released laws rule job taken ids id words old placed new within empty placed_is ids_are new_is own =
    let none : occurrences id taken ≡ 0 = omega (arith, own id, none_here job old.memory id empty) in
    released_and_placed laws _ _ _ taken _ _ _ _ within (released_apart old.memory id taken none ∙ empty) refl
    (rw (placed_is, ids_are) at new_is
    ∙ ap (with_memory old) (written_apart old.memory id (new_slot job words) taken none)) own

-- ---- without operands

pub nothing_in : {E : Type 0} (xs : List E) → (length xs == 0) ≡ true → xs ≡ []
nothing_in xs none = grind (arith, common_steps)

pub held_beside_none : (rule : Rule) (job : ℕ) (op : Op) (ids : List ℕ) (blocks : JobBlocks) → taken_ids op ids ≡ [] →
    held_under rule job op ids blocks ≡ held_words job blocks
held_beside_none rule job op ids blocks none = grind arith

-- ======== a block that is written over in the place of an instruction's operands

-- ---- a default among the operands

-- their words
pub words_with_third : (words : ℕ → List ℤ) (default : ℕ) (others : List ℕ) → length others ≡ 4 →
    map words (with_third 0 others default) ≡ with_third [] (map words others) (words default)
words_with_third words default others long = grind (arith, common_steps)

-- what holds of all holds of the others
pub others_too : (P : ℕ → Type 0) (default : ℕ) (others : List ℕ) → length others ≡ 4 →
    All P (with_third 0 others default) → All P others
others_too P default (a ∷ b ∷ c ∷ e ∷ []) long all =
    let whole = a ∷ b ∷ default ∷ c ∷ e ∷ [] in
    All-append P (a ∷ b ∷ []) (c ∷ e ∷ []) (All-take P 2 whole all) (All-drop P 3 whole all)
others_too P default others long all = absurd (omega (arith, long))

counted_once : (default : ℕ) (others : List ℕ) → length others ≡ 4 →
    occurrences default (with_third 0 others default) ≡ occurrences default others + 1
counted_once default others long = grind (arith, common_steps, named_sum, named_here)

pub default_listed : (default : ℕ) (others : List ℕ) → length others ≡ 4 →
    1 ≤ occurrences default (with_third 0 others default)
default_listed default others long = omega (arith, counted_once default others long)

-- a default that one reference names is none of the others
pub others_differ : (default : ℕ) (others : List ℕ) → length others ≡ 4 →
    occurrences default (with_third 0 others default) ≤ 1 → All (λ other. other ≢ default) others
others_differ default others long few k x below same = grind (arith, common_steps, listed, counted_once)

-- ---- other words, and no result

own_one : (job id : ℕ) (taken : List ℕ) (blocks : JobBlocks) → AreOwn job blocks taken → 1 ≤ occurrences id taken →
    AreOwn job blocks (id ∷ [])
own_one job id taken blocks own named k = grind (arith, cases_eq, named_here, named_other, own k, own id)

pub keeps_references : ReleasesChangeOnlyTheirJob → BlocksChangeOnlyTheirJob → ChangesJoin →
    (job id : ℕ) (taken : List ℕ) (words : List ℤ) (old new : JobBlocks) → AreOwn job old taken →
    1 ≤ occurrences id taken → (slot_at old.memory id).count ≡ 1 → id < length old.memory.slots →
    new ≡ with_block old job id words → KeepsReferences job old new
keeps_references releases blocks join job id taken words old new own named single within is =
    let m : SharedState = old.memory in
    let gone : JobBlocks = with_releases (id ∷ []) old in
    let empty : slot_at gone.memory id ≡ empty_slot =
    get_or-set_same m.slots id (lowered_slot (slot_at m id)) empty_slot within ∙ rw single in
    let changes = (join job).both old gone (with_block gone job id words)
    (releases old job (id ∷ []) (own_one job id taken old own named))
    (blocks gone job id words (rw length-set within) empty) in
    let here = ap (λ (s : Slot). s.count) (placed_here job m id words within) in
    let once : (own_slot job m id).count ≡ 1 = omega (arith, own_count job m id, single, own id, named) in
    grind (arith, nat_tests, cases_eq, placed_there, set-set)

-- ---- what the cells hold then

abbrev again : List Slot → Cell → Cell
again slots c = record {
  id = c.id;
  entry = record {
    tag = c.entry.tag;
    value = record { kind = c.entry.value.kind; words = (slot_in slots c.id).words };
  };
}

same_ids : (slots : List Slot) (cells : List Cell) → ids_of (map (again slots) cells) ≡ ids_of cells
same_ids slots [] = refl
same_ids slots (c ∷ cells) = grind (arith, (same_ids slots cells))

-- cells hold blocks whose words changed
pub held_again : (old new : List Slot) (ids : List ℕ) → ((id : ℕ) → (slot_in new id).count ≡ (slot_in old id).count) →
    HoldSomeStack old ids → HoldSomeStack new ids
held_again old new ids same (stack, h) =
    let cells : List Cell = map (again new) h.cells in
    let named = same_ids new h.cells in (
      entries_of cells,
      record {
        cells = cells;
        ids_are = h.ids_are ∙ sym named;
        entries_are = refl;
        held = record {
          words = All-map (λ (c : Cell). (slot_in new c.id).words ≡ c.entry.value.words) (again new) h.cells
              (λ k d below. refl);
          counts = λ id. same id ∙ (h.held.counts id ∙ ap (occurrences id) (sym named));
          alike = All-map (λ (x : Cell). (k : ℕ) (d : Cell) → k < length cells → AreAlike x (get_or cells k d))
              (again new) h.cells (λ k d below. All-map (AreAlike (again new (get_or h.cells k d))) (again new) h.cells
              (h.held.alike k d below));
        };
      },
    )

-- ---- the end of a job that runs

pub may_end : (number : ℕ) (blocks : JobBlocks) (task : Task) (slot : SlotState) → Shows number blocks task slot →
    IsActive slot.status → MayEnd number blocks task slot
may_end number blocks task slot shows active = grind arith

-- and after words of a block changed
pub may_end_still : (number : ℕ) (old new : JobBlocks) (task : Task) (slot : SlotState) → MayEnd number old task slot →
    KeepsReferences number old new → grant_of new number ≡ grant_of old number → MayEnd number new task slot
may_end_still number old new task slot may keeps same =
    let holds = held_again (own_slots number old) (own_slots number new) slot.trace.cells keeps.counts may.holds in
    grind arith

-- ======== the operands of an instruction whose results are computed where they are placed

module _ (law : StepsCanBegin ℕ) (counted : HeldIsCounted) (job : ℕ) (blocks : JobBlocks) (task : Task)
    (t : TrackState ℕ) (run : IsRunningSlot (own_slots job blocks) task t) (verified : IsVerified task)
    (op : Op) (sources : List (List ℤ)) (next : IsNext task t.executed op sources) (reads : is_constant op ≡ false)
    (tidy : IsTidy blocks.memory) where
  can : CanBegin task t.executed run.state t
  can = can_begin law (own_slots job blocks) task t run verified

  abbrev item : Item
  item = (next_item can.call).item

  same : question_of item run.state.stack ≡ question_by op sources
  same = same_question task t run.state op sources run.running can next

  op_is : op_of item ≡ op
  op_is = ap (λ (q : Question). q.op) same

  -- its operands are the words of the blocks at the top of the stack
  operands_are : sources ≡ operands_in blocks op t.cells
  operands_are =
      let there = are_there job blocks.memory t.cells run.state.stack run.holds in
      grind (arith, same, read_on_top, same_top)

  pub is_placeable : (first second : ℕ) → HaveKinds (source_kinds op) sources → shape op sources ≡ None →
      length (result_kinds op) ≡ result_count second → need op sources ≡ (first, second) →
      held_words job blocks + first + second ≤ task.limits.words →
      IsPlaceable task job blocks t (record { op = op; first = first; second = second })
  is_placeable first second kinds shaped count needs room =
      let is = counted task.rule job blocks item run.state t.cells run.holds tidy in
      grind (arith, item, operands_are, op_is, deep_enough)

-- an instruction with a result goes on at what follows it
pub goes_next : (op : Op) (second : ℕ) → length (result_kinds op) ≡ result_count second → (flag : Bool) →
    Next ≡ flow_by op flag
goes_next op second count flag = grind arith

-- ---- the results

-- they have the words that they need
pub computed_long : ResultsHaveNeededLengths → (op : Op) (sources : List (List ℤ)) (needed : ℕ × ℕ) →
    CanCompute op sources needed → (first second : List ℤ) → AreResults (question_by op sources) first second →
    (length first, length second) ≡ needed
computed_long lengths op sources needed can first second are = grind (arith, length_by_kinds)

-- ---- their blocks

module _ (rule : Rule) (job : ℕ) (op : Op) (taken : List ℕ) (id : ℕ) (first second : List ℤ) (old between : JobBlocks)
    (replaced : HasReplaced rule job taken id first old between)
    (results : AreResults (question_by op (map (words_at old.memory) taken)) first second) where
  counts : (new : JobBlocks) → held_words job new ≡ held_words job between + length second →
      words_by rule (held_words job old + length first + length second) (held_words job new)
      ≡ held_words job (blocks_beside rule taken old) + length first + length second
  counts new more = grind arith

  exchanged_still : (cells : List ℕ) → taken_ids op cells ≡ taken →
      IsExchanged Second job (taken_ids op cells) id first old between
  exchanged_still cells same = grind (arith, same)

  pub one_computed : length (result_kinds op) ≡ 1 → length second ≡ 0 →
      AreComputed rule job op taken (id ∷ []) old between
  one_computed one none = grind (arith, same, exchanged_still, counts)

  pub two_computed : (top : ℕ) (new : JobBlocks) → length (result_kinds op) ≡ 2 → top < length between.memory.slots →
      slot_at between.memory top ≡ empty_slot → new ≡ with_block between job top second →
      AreComputed rule job op taken (id ∷ top ∷ []) old new
  two_computed top new two within empty is = grind (arith, adds_block, same, exchanged_still, counts)

-- ---- a DPERMUTE

-- its result is as long as its default
five_long : (xs : List (List ℤ)) (k : Scalar) (needed : ℕ × ℕ) → CanCompute (SegmentedOp (DefaultPermute k)) xs needed →
    needed ≡ (length (slice_index_or xs 2 []), 0)
unfolding shape need
five_long xs k needed can = grind (arith, nat_tests)

-- of operands of which this is the third
pub with_long_default : (words : ℕ → List ℤ) (ids : List ℕ) (default : ℕ) (op : Op) (k : Scalar) (needed : ℕ × ℕ) →
    op ≡ SegmentedOp (DefaultPermute k) → 2 < length ids → default ≡ get_or ids 2 default →
    CanCompute op (map words ids) needed → CanCompute (SegmentedOp (DefaultPermute k)) (map words ids)
    (length (words default), 0)
with_long_default words ids default op k needed op_is within third can =
    let now : CanCompute (SegmentedOp (DefaultPermute k)) (map words ids) needed = rw (← op_is) can in
    let there : slice_index_or (map words ids) 2 [] ≡ words default =
    get_or_default (map words ids) 2 [] (words default) (omega (arith, within, length-map ids words))
    ∙ (get_or-map words ids 2 default ∙ ap words (sym third)) in
    rw (five_long _ k _ now ∙ ap (λ (x : List ℤ). (length x, 0)) there) at now

-- ======== what the functions that make blocks cite

pub ruleset of_exchanges = (reverse-reverse, held_beside_none, nothing_in, own_are_live)

pub ruleset of_computations = (length-take, length-reverse, reverse-reverse, few_operands)
