-- The lines of code that are taken at once count as they would one by one, and their bytes are within the limit.
use Rattle.std.proofs.Common.{◌-◌, ◌≤◌, arith, length}
use Rattle.vcode_base.specs.declared.limits.TheConstants.{MOST_BATCH_BYTES}
use Rattle.batch_reader.proofs.ReaderLemmas.{bytes_come}
use Rattle.batch_reader.proofs.CodeTexts.{few_lines}
use Rattle.batch_reader.proofs.line_reader.LineReader.take_code.Goals as goal

pub step_through-requires-clause-fits : goal.step_through-requires-clause-fits
step_through-requires-clause-fits g c =
    let within : length c.args.run.text.now ≤ c.self.inside.left = rw (← c.self.view_is) at c.requires.within in (
      MOST_BATCH_BYTES - c.self.inside.left,
      c.self.invariant.stage,
      omega (arith, within, c.self.invariant.bytes),
    )

pub invariant_of-self-2 : goal.invariant_of-self-2
invariant_of-self-2 g c =
    let within : length c.args.run.text.now ≤ c.self.inside.left = rw (← c.self.view_is) at c.requires.within in
    record {
      number = omega (
        arith,
        within,
        c.self.invariant.number,
        few_lines c.args.run.count c.args.run.text.now c.requires.lines,
      );
      bytes = omega (arith, c.self.invariant.bytes);
      stage = bytes_come c.self.inside.left (length c.args.run.text.now) _ c.step_through.new.stage
          c.self.invariant.bytes (omega (arith, within))
          (c.in_default.ensures.fits (MOST_BATCH_BYTES - c.self.inside.left) c.self.invariant.stage);
    }
