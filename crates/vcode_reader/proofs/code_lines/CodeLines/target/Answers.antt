use Rattle.std.proofs.Common.{◌∙◌, None}
use Rattle.vcode_reader.proofs.Linking.{target_there}
use Rattle.vcode_reader.proofs.Pooling.{got, not_got}
use Rattle.vcode_reader.proofs.code_lines.CodeLines.target.Goals as goal

pub returns-in_err-line : goal.returns-in_err-line
returns-in_err-line g c =
    let none = not_got _ _ _ c.as_slice.ensures c.in_err-line.ensures.lookup.0 in
    rw c.from_residual.ensures (target_there _ _ _ _ c.args.place None _ c.self.invariant none c.self.view_is)

pub returns-in_err-target : goal.returns-in_err-target
returns-in_err-target g c =
    let look = c.in_ok-line.ensures.lookup in
    let there = got _ _ _ _ c.as_slice.ensures look.0 look.1 in
    c.from_residual-in_err-target.ensures
    ∙ (c.in_err-target.ensures ∙ target_there _ _ _ _ c.args.place _ _ c.self.invariant there c.self.view_is)

pub returns : goal.returns
returns g c =
    let look = c.in_ok-line.ensures.lookup in
    let there = got _ _ _ _ c.as_slice.ensures look.0 look.1 in
    c.in_ok-target.ensures ∙ target_there _ _ _ _ c.args.place _ _ c.self.invariant there c.self.view_is
