use Rattle.std.proofs.Common.{arith}
use Rattle.vcode_reader.proofs.Linking.{within_pooled, item_at, call_at}
use Rattle.vcode_reader.proofs.code_lines.CodeLines.called.Goals as goal

pub bounds-as_slice-place : goal.bounds-as_slice-place
bounds-as_slice-place g c = within_pooled _ _ _ _ _ _ _ c.as_slice.ensures c.self.view_is c.requires

pub offset_bounds-as_slice-place : goal.offset_bounds-as_slice-place
offset_bounds-as_slice-place g c =
    let within = bounds-as_slice-place g c in
    let fits = c.as_slice.type_inv.1 in
    omega (arith, within, fits)

pub called_by-requires : goal.called_by-requires
called_by-requires g c = (
  _,
  item_at _ _ _ _ _ _ _ c.as_slice.ensures c.self.view_is c.requires _ _ c.as_slice-2.ensures c.self.invariant,
)

pub returns : goal.returns
returns g c =
    call_at _ _ _ _ _ _ _ c.as_slice.ensures c.self.view_is c.requires _ _ _ c.as_slice-2.ensures c.called_by.ensures
