-- The block of the default is written over with the result, and the other operands are released.
use Rattle.std.proofs.Common.{◌≡◌, ◌≤◌, ◌∙◌, [], length, map, refl, arith}
use Rattle.std.proofs.lemmas.List.{length-map}
use Rattle.vcode_base.specs.declared.kind.Scalar.{Scalar}
use Rattle.vcode_base.specs.declared.kind.Scalar.TheVariants.{Int, Bool}
use Rattle.vcode_base.specs.declared.op.Op.{Op}
use Rattle.vcode_base.specs.declared.op.Op.TheVariants.{Segmented as SegmentedOp}
use Rattle.vcode_base.specs.declared.op.Segmented.TheVariants.{DefaultPermute}
use Rattle.vcode_base.specs.Kinds.{result_kinds}
use Rattle.refcounts.specs.Making.{words_at}
use Rattle.refcounts.specs.SharedState.{IsLive, occurrences}
use Rattle.job_slots.specs.InPlace.{with_third}
use Rattle.job_slots.proofs.InPlace.{own_are_live, released_and_placed, one_computed, default_listed, keeps_references}
use Rattle.job_slots.proofs.InPlace.{others_differ, others_too, words_with_third}
use Rattle.job_slots.proofs.Cells.{own_named}
use Rattle.job_slots.proofs.in_place.compute_over.Given.{Over}
use Rattle.job_slots.proofs.in_place.compute_over.Goals as goal
use Rattle.job_slots.proofs.in_place.compute_over.Goals.{After-changes_join}

listed : (g : Over) (c : After-changes_join g) → 1 ≤ occurrences c.args.overlaid.default c.args.operands.now
listed g c = rw c.requires.are (default_listed c.args.overlaid.default c.args.overlaid.others c.requires.four)

-- the words of the operands
lists : (g : Over) (c : After-changes_join g) → map (words_at c.args.blocks.now.memory) c.args.operands.now ≡ with_third
    [] (map (words_at c.args.blocks.now.memory) c.args.overlaid.others)
    (words_at c.args.blocks.now.memory c.args.overlaid.default)
lists g c =
    rw c.requires.are
    (words_with_third (words_at c.args.blocks.now.memory) c.args.overlaid.default c.args.overlaid.others
    c.requires.four)

pub exchange_with-requires-clause-live : goal.exchange_with-requires-clause-live
exchange_with-requires-clause-live g c =
    let m = c.args.blocks.now.memory in
    others_too (IsLive m) c.args.overlaid.default c.args.overlaid.others c.requires.four
    (rw c.requires.are at (own_are_live c.args.turn.number c.args.blocks.now c.args.operands.now c.requires.own))

pub exchange_with-requires-clause-others : goal.exchange_with-requires-clause-others
exchange_with-requires-clause-others g c =
    let named = own_named c.args.turn.number c.args.blocks.now.memory c.args.operands.now c.requires.own
    c.args.overlaid.default in
    let once : occurrences c.args.overlaid.default c.args.operands.now ≤ 1 = omega (arith, named, c.requires.single) in
    others_differ c.args.overlaid.default c.args.overlaid.others c.requires.four (rw c.requires.are at once)

pub exchange_with-requires-clause-can : goal.exchange_with-requires-clause-can
exchange_with-requires-clause-can g c =
    let at = (goal.at.exchange_with-requires-clause-can g c).After-changes_join in
    let words = words_at c.args.blocks.now.memory in (
      length-map c.args.overlaid.others words ∙ c.requires.four,
      (rw (← lists g at) c.requires.can),
    )

one : (k : Scalar) → length (result_kinds (SegmentedOp (DefaultPermute k))) ≡ 1
one Int = refl
one Bool = refl

pub returns-in-Ok-clause-computed : goal.returns-in-Ok-clause-computed
returns-in-Ok-clause-computed g c =
    let at = (goal.at.returns-in-Ok-clause-computed g c).After-changes_join in
    let e = c.in-Ok.ensures.exchanged in
    let op : Op = SegmentedOp (DefaultPermute c.args.scalar) in
    let replaced = released_and_placed (assumption) c.args.turn.rule c.args.turn.number c.args.operands.now _
    c.args.overlaid.default e.words c.args.blocks.now c.exchange_with.new.self c.exchange_with.ensures.fresh.0
    c.exchange_with.ensures.fresh.1 refl e.rewritten c.requires.own in
    one_computed _ _ op _ _ _ [] _ _ replaced (rw (lists g at) e.so) (one c.args.scalar) refl

pub returns-in-Err-clause-kept : goal.returns-in-Err-clause-kept
returns-in-Err-clause-kept g c =
    let at = (goal.at.returns-in-Err-clause-kept g c).After-changes_join in
    let e = c.in-Err.ensures.fault in
    keeps_references c.releases_change_only_their_job.ensures c.blocks_change_only_their_job.ensures
    c.changes_join.ensures c.args.turn.number c.args.overlaid.default c.args.operands.now e.words c.args.blocks.now
    c.exchange_with.new.self c.requires.own (listed g at) c.requires.single c.exchange_with.ensures.fresh.0 e.rewritten
