use Rattle.std.proofs.Common.{refl}
use Rattle.batch_reader.specs.Standings.{shown_line}
use Rattle.batch_reader.proofs.StepLemmas.{turns_at_no_job}
use Rattle.batch_reader.proofs.step.step_between.Goals as goal

pub returns-in-None : goal.returns-in-None
returns-in-None g c = record {
  fits = tt;
  turns = λ region room has. turns_at_no_job region c.args.ended room (shown_line c.args.line) refl
      c.in_default.not-Blank c.in-None.ensures has;
}
