-- The vectors that are copied, one for each cell and kind, are the results of the job.
use Rattle.vcode_base.specs.declared.kind.Kind.{Kind}
use Rattle.std.proofs.Common.{◌<◌, rules, ◌≡◌, ℕ, length, get_or, ◌∙◌, ap, arith}
use Rattle.std.proofs.lemmas.List.{length-append, take_more}
use Rattle.std.proofs.lemmas.Slice.Zip.{zip_turn, zip_end}
use Rattle.job_steps.specs.Runs.{outcome}
use Rattle.job_steps.specs.States.{Vector, ruled}
use Rattle.verifier.specs.Typed.{TypedProgram}
use Rattle.job_slots.proofs.Shown.{copied_more, ArePaired, IsResult, values_in, result_of_turn, all_results}
use Rattle.job_slots.proofs.collect.results.Given.{Over}
use Rattle.job_slots.proofs.collect.results.Goals as goal
use Rattle.job_slots.proofs.collect.results.Goals.{In-Some, After-into_iter-id-iterator}

-- the cells and the kinds go with one another
paired : (g : Over) (c : After-into_iter-id-iterator g) → ArePaired (ruled c.args.turn.rule c.args.job.now)
    c.args.track.now c.cells-cells.result.now c.results-kinds.result.now
paired g c = record {
  ids_are = c.cells-cells.ensures;
  kinds_are = c.results-kinds.ensures.same ∙ ap (λ (v : TypedProgram). v.results) c.verified.ensures.same;
}

-- a turn has the cell and the kind at its place
at_turn : (g : Over) (c : In-Some g) → (length c.loop-id.yielded < length c.cells-cells.result.now)
    × (length c.loop-id.yielded < length c.results-kinds.result.now)
    × ((d : ℕ) → c.in-Some.id.now ≡ get_or c.cells-cells.result.now (length c.loop-id.yielded) d)
    × ((d : Kind) → c.in-Some.kind.now ≡ get_or c.results-kinds.result.now (length c.loop-id.yielded) d)
at_turn g c =
    zip_turn c.cells-cells.result.now c.results-kinds.result.now _ c.into_iter-id-iterator.result _ c.next.new.self _
    (search rules) (search rules) c.loop-id.yielded_by _ c.in-Some.is c.next.ensures.steps

is_result : (g : Over) (c : In-Some g) → IsResult c.args.blocks.now.memory
    (values_in (outcome (ruled c.args.turn.rule c.args.job.now))) (length c.loop-id.yielded) c.in-Some.id.now
    c.in-Some.kind.now
is_result g c =
    let turn = at_turn g c in
    result_of_turn c.results_have_kinds.ensures c.each_ends.ensures c.args.turn.number c.args.blocks.now _ _
    c.requires.verified c.requires.returned _ _ (paired g (goal.at.In-Some g c).After-into_iter-id-iterator)
    _ _ _ turn.0 turn.2 turn.3

pub copy_of-requires-clause-live : goal.copy_of-requires-clause-live
copy_of-requires-clause-live g c = (is_result g (goal.at.copy_of-requires-clause-live g c).In-Some).live

pub loop-id-preserved : goal.loop-id-preserved
loop-id-preserved g c =
    let at = (goal.at.loop-id-preserved g c).In-Some in
    let is = is_result g at in
    let turn = at_turn g at in
    let value : Vector = record { kind = c.in-Some.kind.now; words = c.in_ok-words.words } in
    let pushed = c.in_ok-push.ensures.items in
    let inv = c.loop-id.invariant in
    record {
      count = rw pushed (simp length-append (omega (arith, inv.count)));
      first = rw (
        pushed,
        inv.first,
        length-append,
        take_more _ (length c.loop-id.yielded) value is.within,
        is.value_is value,
        c.in_ok-words.ensures,
      );
      copies = copied_more c.args.blocks.now.memory c.cells-cells.result.now c.loop-id.values.items _ value
          c.in-Some.id.now inv.copies (omega (arith, inv.count, turn.0)) pushed
          (rw inv.count (turn.2 c.in-Some.id.now)) c.in_ok-words.ensures;
    }

pub returns : goal.returns
returns g c =
    let count = zip_end c.cells-cells.result.now c.results-kinds.result.now _ c.into_iter-id-iterator.result _
    c.next.new.self _ (search rules) (search rules) c.loop-id.yielded_by c.in-None.is c.next.ensures.steps in
    all_results c.results_have_kinds.ensures c.each_ends.ensures c.args.turn.number c.args.blocks.now _ _
    c.requires.verified c.requires.returned _ _ (paired g (goal.at.returns g c).After-into_iter-id-iterator) _ _
    count (c.from_vec.ensures ∙ c.loop-id.invariant.first)
