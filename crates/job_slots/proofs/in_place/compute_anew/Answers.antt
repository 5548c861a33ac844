-- New blocks with the results come in the place of the operands.
use Rattle.std.proofs.Common.{◌≡◌, ◌∙◌, ℕ, false, length, refl, sym, ap, arith, zero, suc}
use Rattle.std.proofs.lemmas.Bool.Decides.{nat_tests}
use Rattle.std.specs.Prelude.{◌==◌}
use Rattle.vcode_base.specs.declared.rule.Rule.{Rule}
use Rattle.vcode_base.specs.declared.rule.Rule.TheVariants.{First}
use Rattle.job_slots.specs.InPlace.{result_count}
use Rattle.job_slots.proofs.InPlace.{HasReplaced, nothing_in, own_are_live, own_still, placed_and_released}
use Rattle.job_slots.proofs.InPlace.{one_computed, two_computed}
use Rattle.job_slots.proofs.in_place.compute_anew.Given.{Over}
use Rattle.job_slots.proofs.in_place.compute_anew.Goals as goal
use Rattle.job_slots.proofs.in_place.compute_anew.Goals.{After-release_all}

pub place_with-requires-clause-live : goal.place_with-requires-clause-live
place_with-requires-clause-live g c =
    own_are_live c.args.turn.number c.args.blocks.now c.args.operands.now c.requires.own

pub release_all-requires-clause-own : goal.release_all-requires-clause-own
release_all-requires-clause-own g c =
    let placed = c.in-Ok.ensures.placed in
    own_still c.args.turn.number c.args.blocks.now c.place_with.new.self c.in-Ok.first placed.words c.args.operands.now
    placed.empty placed.placed c.requires.own

-- the first result comes in the place of the operands
replaced : (g : Over) (c : After-release_all g) (rule : Rule) → HasReplaced rule c.args.turn.number c.args.operands.now
    c.in-Ok.first c.in-Ok.ensures.placed.words c.args.blocks.now c.release_all.new.self
replaced g c rule =
    let placed = c.in-Ok.ensures.placed in
    placed_and_released (assumption) _ _ _ _ _ _ _ _ _ placed.in_range placed.empty placed.placed refl
    c.release_all.ensures c.requires.own

pub place-second-requires-clause-numbers : goal.place-second-requires-clause-numbers
place-second-requires-clause-numbers g c =
    let has = replaced g (goal.at.place-second-requires-clause-numbers g c).After-release_all First in
    omega (arith, has.count, has.numbers, c.requires.numbers)

pub place-second-requires-clause-room : goal.place-second-requires-clause-room
place-second-requires-clause-room g c =
    let has = replaced g (goal.at.place-second-requires-clause-room g c).After-release_all First in
    rw has.grants (omega (arith, has.held, c.in-Ok.ensures.placed.long, c.requires.room))

pub returns-then-is_empty-clause-computed : goal.returns-then-is_empty-clause-computed
returns-then-is_empty-clause-computed g c =
    let at = (goal.at.returns-then-is_empty-clause-computed g c).After-release_all in
    let placed = c.in-Ok.ensures.placed in
    let none : length c.place_with.new.beside ≡ 0 =
    ap length (nothing_in _ (sym c.is_empty.ensures ∙ c.if-is_empty.true)) in
    let none_before : length c.args.beside.now ≡ 0 = omega (arith, c.place_with.auto.beside, none) in
    one_computed _ _ _ _ _ _ _ _ _ (replaced g at c.args.turn.rule) placed.so
    (c.requires.count ∙ ap result_count none_before) none

some_count : (second : ℕ) → (second == 0) ≡ false → result_count second ≡ 2
some_count zero some = absurd (grind (arith, nat_tests))
some_count (suc n) some = refl

pub returns-else-is_empty-clause-computed : goal.returns-else-is_empty-clause-computed
returns-else-is_empty-clause-computed g c =
    let at = (goal.at.returns-else-is_empty-clause-computed g c).After-release_all in
    let placed = c.in-Ok.ensures.placed in
    let same : length c.args.beside.now ≡ length c.place_with.new.beside = omega (arith, c.place_with.auto.beside) in
    two_computed _ _ _ _ _ _ _ _ _ (replaced g at c.args.turn.rule) placed.so _ _
    (c.requires.count ∙ (ap result_count same ∙ some_count _ (sym c.is_empty.ensures ∙ c.if-is_empty.false)))
    c.place-second.ensures.fresh.0 c.place-second.ensures.fresh.1 c.place-second.ensures.placed
