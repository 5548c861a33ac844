use Rattle.std.proofs.Common.{◌∙◌, sym, arith, Ok, Err}
use Rattle.verifier.proofs.Functions.{code_lines}
use Rattle.verifier.proofs.Walks.{line_goes}
use Rattle.verifier.proofs.lines.check_lines.Goals as goal

pub returns-in-Err : goal.returns-in-Err
returns-in-Err g c =
    let goes = line_goes c.args.scope.now _ c.args.number c.loop-place.place c.args.function.now c.unwrap-line.result
    c.loop-place.stack c.walk_line.new.stack (Err c.in-Err.fault) c.program.ensures c.requires
    (sym c.item.ensures ∙ c.unwrap-line.ensures) c.in-Err.ensures in
    grind (arith, code_lines, goes)

pub loop-place-preserved : goal.loop-place-preserved
loop-place-preserved g c =
    let goes = line_goes c.args.scope.now _ c.args.number c.loop-place.place c.args.function.now c.unwrap-line.result
    c.loop-place.stack c.walk_line.new.stack (Ok c.in-Ok.field-0) c.program.ensures c.requires
    (sym c.item.ensures ∙ c.unwrap-line.ensures) c.in-Ok.ensures in
    grind (arith, code_lines, goes)
