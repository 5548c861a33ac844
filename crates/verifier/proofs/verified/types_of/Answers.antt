use Rattle.std.proofs.Common.{◌∙◌, ◌≤◌, Some, ap, subst, sym, length, arith}
use Rattle.std.proofs.lemmas.List.{take_all}
use Rattle.signatures.specs.Signatures.{kinds_of}
use Rattle.verifier.specs.Typed.{AreArrows}
use Rattle.verifier.proofs.Arrows.{arrow_at, is_known, known_arrow, next_arrow}
use Rattle.verifier.proofs.verified.types_of.Goals as goal

pub unwrap-requires : goal.unwrap-requires
unwrap-requires g c =
    let items = c.functions-function-items in
    let arrow = arrow_at c.args.signatures.now c.args.program.now items.result.now c.loop-function.function-index
    c.function-item.result c.requires items.ensures.functions c.loop-function-test.true c.function-item.is in
    is_known c.get.result _ _ c.get.ensures (arrow.0, ap (kinds_of c.args.signatures.now) c.name.ensures ∙ arrow.1)

pub loop-function-preserved : goal.loop-function-preserved
loop-function-preserved g c =
    let items = c.functions-function-items in
    let known = known_arrow c.get.result _ _ c.unwrap.result c.get.ensures c.unwrap.ensures in
    let copied = c.in_ok-from_slices.ensures in
    let here =
    ap (kinds_of c.args.signatures.now) (sym c.name.ensures)
    ∙ (known ∙ ap Some (sym copied)) in
    next_arrow c.args.signatures.now c.args.program.now items.result.now c.loop-function.function-index
    c.function-item.result _ _ _ items.ensures.functions c.loop-function-test.true c.function-item.is
    c.loop-function.invariant here c.in_ok-push.ensures.items

pub returns : goal.returns
returns g c =
    let past = c.loop-function-test.false in
    let same = ap length c.functions-function-items.ensures.functions in
    let all : length c.args.program.now.functions ≤ c.loop-function.function-index = omega arith in
    let whole = subst (λ fs. AreArrows c.args.signatures.now fs c.loop-function.types.items)
    (take_all c.loop-function.function-index c.args.program.now.functions all) c.loop-function.invariant in
    subst (AreArrows c.args.signatures.now c.args.program.now.functions) (sym c.from_vec.ensures) whole
