use Rattle.std.proofs.Common.{◌≡◌, ◌+◌, ◌<◌, ◌≤◌, length, get_or, set, sym, ap, subst, arith}
use Rattle.std.specs.Prelude.{All, false}
use Rattle.std.proofs.lemmas.Grind.{common_steps}
use Rattle.holes.specs.FreeWords.{Region, set_range}
use Rattle.bench_ops.specs.declared.spans.Span.{Span}
use Rattle.bench_ops.specs.Spans.{AreApart}
use Rattle.bench_ops.proofs.SpanLemmas.{all_within, taken}
use Rattle.bench_ops.proofs.spans.Spans.take.Goals as goal

pub invariant_of-self : goal.invariant_of-self
invariant_of-self c =
    let free = c.args.self.now.holes.free in
    let spans = c.args.self.now.spans.items in
    let number = c.args.number in
    let old = c.in-Some.span.now in
    let place = c.in-Some-take.place in
    let new : Span = record { place = place; len = c.args.len } in
    let there : number < length spans = grind (arith, common_steps) in
    let none : (get_or spans number old).len ≡ 0 = grind (arith, common_steps, c.in-Some.ensures.lookup) in
    let fits = c.in-Some-take.ensures.lowest in
    let after : c.take.new.self.free ≡ set_range free place c.args.len false =
    ap (λ (region : Region). region.free) c.in-Some-take.ensures.taken in
    record {
      within = subst (λ free. All (λ (span : Span). span.place + span.len ≤ length free) (set spans number new))
          (sym after)
          (all_within free spans number new place c.args.len false c.args.self.now.within c.in-Some-take.ensures.within
          c.in-Some-take.ensures.within);
      apart = subst (λ free. AreApart free (set spans number new)) (sym after)
          (taken free spans number old there c.args.self.now.apart new none c.in-Some-take.ensures.within
          (λ word from below. fits.hole.inside word from (omega (arith, below, fits.fits))));
    }
