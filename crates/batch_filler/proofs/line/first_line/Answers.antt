use Rattle.std.proofs.Common.{arith, rules}
use Rattle.batch_filler.proofs.FillLemmas.{last_line, line_at, no_lines}
use Rattle.batch_filler.proofs.line.first_line.Goals as goal

pub returns-then-is_empty : goal.returns-then-is_empty
returns-then-is_empty c = no_lines c.args.text.now (search rules)

pub returns-in-Some : goal.returns-in-Some
returns-in-Some c = rw (c.split_at.ensures.front, c.split_at.ensures.back) (
  line_at c.args.text.now c.in-Some.place
      c.in-Some.ensures.0.high c.in-Some.ensures.0.before c.in-Some.ensures.1,
  grind arith,
)

pub returns-in-None : goal.returns-in-None
returns-in-None c = (last_line c.args.text.now (search rules) c.in-None.ensures, search rules)
