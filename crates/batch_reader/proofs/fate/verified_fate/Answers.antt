use Rattle.std.proofs.Common.{refl, ◌∙◌}
use Rattle.batch_reader.proofs.FateLemmas.{is_ready}
use Rattle.batch_reader.proofs.fate.verified_fate.Goals as goal

pub returns-in_ok-from_slice-in-Ok : goal.returns-in_ok-from_slice-in-Ok
returns-in_ok-from_slice-in-Ok g c =
    λ region job head signatures code. rw c.new.ensures (is_ready region job c.args.signatures.now c.args.program
    c.args.head.now (record {
      name = c.from_vec-name.result;
      verified = c.in-Ok.verified;
      limits =
          c.args.head.now.limits;
    })
    c.no_fault_where_well_kinded.ensures head signatures code c.in-Ok.ensures.1 c.in-Ok.ensures.0
    (c.from_vec-name.ensures ∙ c.in_ok-from_slice-in-Ok.ensures.items ∙ c.as_slice.ensures) refl)
