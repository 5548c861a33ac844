use Rattle.std.proofs.Common.{refl, length}
use Rattle.batch_reader.specs.declared.stage.StageStep.TheVariants.{To}
use Rattle.batch_reader.proofs.ReaderLemmas.{stands_behind_blank, stands_taken}
use Rattle.batch_reader.proofs.line_reader.LineReader.take.Goals as goal

pub returns-then-passes_over-clause-taken : goal.returns-then-passes_over-clause-taken
returns-then-passes_over-clause-taken g c =
    let blank = c.passes_over.ensures c.if-passes_over.true in
    rw (← c.self.view_is) (λ come stands. stands_behind_blank _ come c.args.text.now c.heading_of-heading.result _ _
    blank.0 c.heading_of-heading.ensures blank.1 stands)

pub returns-then-stays-clause-taken : goal.returns-then-stays-clause-taken
returns-then-stays-clause-taken g c =
    rw (← c.self.view_is) (λ come stands. stands_taken _ come c.args.text.now c.heading_of-heading.result
    (To c.step_inside.new.stage) c.self.inside.number _ _ (length c.self.inside.entries) c.self.inside.rule
    c.step_inside.new.stage c.self.inside.entries refl refl refl c.heading_of-heading.ensures
    (λ room standing. c.in_default.ensures.turns c.self.inside.region (length c.self.inside.entries) room standing)
    (refl, refl) stands)
