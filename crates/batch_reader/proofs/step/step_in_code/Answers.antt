use Rattle.std.proofs.Common.{refl}
use Rattle.batch_reader.specs.Standings.{shown_line}
use Rattle.batch_reader.proofs.StepLemmas.{isnt_end, turns_in_code}
use Rattle.batch_reader.proofs.step.step_in_code.Goals as goal

pub returns-in_ok-more_code-in_default : goal.returns-in_ok-more_code-in_default
returns-in_ok-more_code-in_default g c = record {
  fits = (c.requires.name, c.in_ok-more_code-in_default.ensures.fits c.args.line.place c.requires.part);
  turns = λ region ended room job shown has. turns_in_code region ended room job (shown_line c.args.line) _ refl
      (isnt_end c.args.line.heading c.in_default.not-End) has
      (shown.0, c.in_ok-more_code-in_default.ensures.shown region job shown.1);
}
