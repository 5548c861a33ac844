use Rattle.batch_reader.proofs.ReaderLemmas.{stands_taken}
use Rattle.batch_reader.proofs.line_reader.LineReader.take_other.Goals as goal

pub returns-clause-taken : goal.returns-clause-taken
returns-clause-taken g c =
    rw (← c.self.view_is) (λ come stands. stands_taken _ come c.args.line.text.now c.args.line.heading
    c.in_ok-step.step c.args.line.number _ _ c.len-ended.result c.keep_step.new.rule c.keep_step.new.stage
    c.keep_step.new.entries (rw (← c.self.view_is) at c.requires.number) c.keep_step.ensures.rule c.len-ended.ensures
    c.requires.heading c.in_ok-step.ensures.turns c.in_ok-keep_step.ensures.kept stands)
