use Rattle.std.proofs.Common.{arith}
use Rattle.vcode_reader.proofs.Linking.{item_there, lies_too}
use Rattle.vcode_reader.proofs.Pooling.{got, number_there, shown_too}
use Rattle.vcode_reader.proofs.code_lines.CodeLines.get.Goals as goal

pub shown_item-item-requires : goal.shown_item-item-requires
shown_item-item-requires g c =
    let look = c.in_ok-line.ensures.lookup in
    let there = got _ _ _ _ c.as_slice-lines.ensures look.0 look.1 in
    lies_too _ _ _ _ _ c.as_slice-lists.ensures c.as_slice-names.ensures (item_there _ _ _ _ _ _ c.self.invariant there)

pub overflow_add-result : goal.overflow_add-result
overflow_add-result g c =
    let look = c.in_ok-line.ensures.lookup in
    let there = got _ _ _ _ c.as_slice-lines.ensures look.0 look.1 in
    omega (arith, number_there _ _ _ _ _ _ c.self.invariant.room there)

pub returns : goal.returns
returns g c =
    let look = c.in_ok-line.ensures.lookup in
    let there = got _ _ _ _ c.as_slice-lines.ensures look.0 look.1 in
    shown_too _ _ _ _ _ _ _ _ _ _ c.as_slice-lists.ensures c.as_slice-names.ensures c.shown_item-item.ensures there
    c.self.view_is
