use Rattle.std.proofs.Common.{sym, subst, List, ℕ}
use Rattle.vcode_reader.specs.Reading.{HasCome}
use Rattle.batch_reader.specs.Standings.{with_code_line}
use Rattle.batch_reader.proofs.FateLemmas.{signatures_are}
use Rattle.batch_reader.proofs.step.code_part.Goals as goal

pub returns-in_ok-reader-in-Ok-clause-shown : goal.returns-in_ok-reader-in-Ok-clause-shown
returns-in_ok-reader-in-Ok-clause-shown g c =
    λ region job shown none. let known = rw c.in-Reading.is at shown in record {
      signatures = signatures_are region (with_code_line job c.args.first_line) _ known.0 (c.in-Ok.ensures.answer _ _
          known.1);
      first_line = c.in_ok-reader-in-Ok.ensures.first_line;
      code = subst (λ (bytes : List ℕ). HasCome c.in_ok-reader-in-Ok.reader bytes) (sym none)
          c.in_ok-reader-in-Ok.ensures.come;
    }
