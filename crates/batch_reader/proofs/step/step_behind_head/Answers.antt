use Rattle.std.proofs.Common.{refl}
use Rattle.batch_reader.specs.Standings.{shown_line}
use Rattle.batch_reader.proofs.StepLemmas.{turns_at_no_signatures}
use Rattle.batch_reader.proofs.step.step_behind_head.Goals as goal

pub returns-in_default : goal.returns-in_default
returns-in_default g c = record {
  fits = tt;
  turns = λ ended room job number head has. turns_at_no_signatures c.args.region ended room job number (shown_line
      c.args.line) refl c.in_default.not-Signatures has;
}
