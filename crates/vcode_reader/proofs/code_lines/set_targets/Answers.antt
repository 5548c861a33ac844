use Rattle.std.proofs.Common.{rules, ◌≡◌, ◌+◌, ◌-◌, ◌<◌, length, length-set, refl, arith}
use Rattle.vcode_reader.proofs.Linking.{none_set, more_set, all_set}
use Rattle.vcode_reader.proofs.code_lines.set_targets.Goals as goal

pub loop-place-init : goal.loop-place-init
loop-place-init g c = search (rules, none_set)

pub loop-place-preserved : goal.loop-place-preserved
loop-place-preserved g c =
    let here = c.loop-place.place - 1 in
    let next : c.loop-place.place ≡ here + 1 = omega arith in
    let within : here < length c.loop-place.lines = omega arith in
    record {
      within = omega (arith, length-set c.loop-place.lines here c.set_target.new.line);
      done = λ first ls ns.
          more_set here _ _ _ first ls ns _ _ (rw next at (c.loop-place.invariant.done first ls ns)) within
          c.loop-place.auto.lines c.in_ok-set_target.ensures.line _ _ refl c.in_ok-set_target.ensures.waits;
    }

pub returns : goal.returns
returns g c = λ first ls ns.
    let none : c.loop-place.place ≡ 0 = omega arith in
    all_set _ _ c.loop-place.waits first ls ns (rw none at (c.loop-place.invariant.done first ls ns))
