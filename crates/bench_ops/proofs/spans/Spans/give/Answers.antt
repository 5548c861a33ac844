use Rattle.std.proofs.Common.{◌≡◌, ◌+◌, ◌<◌, ◌≤◌, length, get_or, set, refl, sym, ap, subst, arith}
use Rattle.std.specs.Prelude.{All, true}
use Rattle.std.proofs.lemmas.Grind.{common_steps}
use Rattle.holes.specs.FreeWords.{Region, set_range}
use Rattle.bench_ops.specs.declared.spans.Span.{Span}
use Rattle.bench_ops.specs.Spans.{AreApart}
use Rattle.bench_ops.proofs.SpanLemmas.{all_within, given}
use Rattle.bench_ops.proofs.spans.Spans.give.Goals as goal

pub invariant_of-self : goal.invariant_of-self
invariant_of-self c =
    let free = c.args.self.now.holes.free in
    let spans = c.args.self.now.spans.items in
    let number = c.args.number in
    let old = c.in-Some.span.now in
    let new : Span = record { place = 0; len = 0 } in
    let there : number < length spans = grind (arith, common_steps) in
    let same : get_or spans number old ≡ old = grind (arith, common_steps, c.in-Some.ensures.lookup) in
    let inside : old.place + old.len ≤ length free = grind (arith, common_steps) in
    let after : c.give.new.self.free ≡ set_range free old.place old.len true =
    ap (λ (region : Region). region.free) c.give.ensures in
    record {
      within = subst (λ free. All (λ (span : Span). span.place + span.len ≤ length free) (set spans number new))
          (sym after)
          (all_within free spans number new old.place old.len true c.args.self.now.within (omega arith) inside);
      apart = subst (λ free. AreApart free (set spans number new)) (sym after)
          (subst (λ (range : Span). AreApart (set_range free range.place range.len true) (set spans number new)) same
          (given free spans number old there c.args.self.now.apart new refl
          (subst (λ (range : Span). range.place + range.len ≤ length free) (sym same) inside)));
    }
