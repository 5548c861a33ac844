use Rattle.std.proofs.Common.{◌∙◌, arith, rules, pos, get_or, FitsSigned, w64}
use Rattle.std.proofs.lemmas.Grind.{common_steps}
use Rattle.std.proofs.lemmas.Int.{to_z-of_z}
use Rattle.vcode_base.specs.Elements.{is_outside}
use Rattle.vector_ops.proofs.Lists.{none_alike, made_alike}
use Rattle.vector_ops.proofs.arithmetic.fill_shifts.Goals as goal

pub fill_by-requires-clause-allowed : goal.fill_by-requires-clause-allowed
fill_by-requires-clause-allowed g c =
    let one = c.is_one_shift.ensures in
    let up = c.if-not-is_one_shift.false in
    let none = none_alike (is_outside 64) _ _ (one.shift up) (one.alike up) in
    grind (arith, common_steps, to_z-of_z, one.many up, none)

pub returns : goal.returns
returns g c =
    let one = c.is_one_shift.ensures in
    let up = c.if-not-is_one_shift.false in
    let fits : FitsSigned w64 (get_or c.args.right.now 0 (pos 0)) = search rules in (
      none_alike (is_outside 64) _ _ (one.shift up) (one.alike up),
      simp to_z-of_z at c.fill_by.ensures ∙ made_alike g.S.PairStep.gives _ _ _ c.requires.same (one.alike up),
    )
