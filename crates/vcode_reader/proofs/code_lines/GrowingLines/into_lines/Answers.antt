use Rattle.std.proofs.Common.{◌∙◌, arith}
use Rattle.vcode_reader.proofs.Linking.{now_linked}
use Rattle.vcode_reader.proofs.code_lines.GrowingLines.into_lines.Goals as goal

pub invariant_of-result : goal.invariant_of-result
invariant_of-result g c =
    now_linked _ _ _ _ _ _ _ _ _ _ c.self.invariant c.as_mut_slice.ensures.value
    (omega (arith, c.as_mut_slice.ensures.len, c.set_targets.auto.lines)) (c.in_ok-set_targets.ensures _ _ _)
    (c.from_vec.ensures ∙ c.shrink_to_fit.ensures.items)
    (c.from_vec-2.ensures ∙ c.shrink_to_fit-2.ensures.items) (c.from_vec-3.ensures ∙ c.shrink_to_fit-3.ensures.items)
