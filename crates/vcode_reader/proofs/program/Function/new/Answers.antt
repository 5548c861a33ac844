use Rattle.std.proofs.Common.{◌∙◌}
use Rattle.vcode_reader.specs.Decode.{function_of-then}
use Rattle.vcode_reader.proofs.Drafting.{whole_function}
use Rattle.vcode_reader.proofs.program.Function.new.Goals as goal

pub invariant_of-result : goal.invariant_of-result
invariant_of-result g c =
    let draft = c.into_lines-lines in
    whole_function c.args.name c.args.line c.args.ret draft.result _
    (c.in_ok-lines.ensures ∙ c.in_ok-push.ensures.pushed) (draft.ensures.body c.requires.closed)

pub returns : goal.returns
returns g c =
    rw (c.in_ok-lines.ensures, c.in_ok-push.ensures.pushed, c.into_lines-lines.ensures.same)
    (function_of-then c.args.name c.args.line _ c.args.ret)
