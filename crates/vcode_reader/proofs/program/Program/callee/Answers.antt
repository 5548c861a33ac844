-- The callee at a place: none past the functions or past the lines, and else the one that is held there.
use Rattle.std.proofs.Common.{Some, None, arith}
use Rattle.vcode_reader.proofs.Callees.{in_line}
use Rattle.vcode_reader.proofs.Pooling.{got, not_got}
use Rattle.vcode_reader.proofs.program.Program.callee.Goals as goal

pub returns-in_err-get : goal.returns-in_err-get
returns-in_err-get g c =
    let look = c.in_ok-callees.ensures.lookup in
    let there = got _ _ _ _ c.as_slice.ensures look.0 look.1 in
    let none = not_got _ _ _ c.as_slice-2.ensures c.in_err-get.ensures.lookup.0 in
    let no = in_line _ _ _ c.args.place c.self.invariant.callees _ None there none in
    grind arith

pub returns : goal.returns
returns g c =
    let look = c.in_ok-callees.ensures.lookup in
    let there = got _ _ _ _ c.as_slice.ensures look.0 look.1 in
    let read = c.in_ok-get.ensures.lookup in
    let on = got _ _ _ _ c.as_slice-2.ensures read.0 read.1 in
    let held = in_line _ _ _ c.args.place c.self.invariant.callees _ (Some _) there on in
    grind arith
