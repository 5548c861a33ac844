use Rattle.batch_reader.proofs.ReaderLemmas.{answers_end, few_at_end}
use Rattle.batch_reader.proofs.line_reader.LineReader.finish.Goals as goal

pub returns-in-Fresh-clause-batch : goal.returns-in-Fresh-clause-batch
returns-in-Fresh-clause-batch g c = rw (← c.self.view_is) (λ come stands. answers_end _ come _ c.in-Fresh.is stands)

pub returns-in-Fresh-clause-few : goal.returns-in-Fresh-clause-few
returns-in-Fresh-clause-few g c = rw (← c.self.view_is) (λ come stands. few_at_end _ come stands)

pub returns-in-Between-clause-batch : goal.returns-in-Between-clause-batch
returns-in-Between-clause-batch g c = rw (← c.self.view_is) (λ come stands. answers_end _ come _ c.in-Between.is stands)

pub returns-in-Between-clause-few : goal.returns-in-Between-clause-few
returns-in-Between-clause-few g c = rw (← c.self.view_is) (λ come stands. few_at_end _ come stands)

pub returns-in-Headed-clause-batch : goal.returns-in-Headed-clause-batch
returns-in-Headed-clause-batch g c = rw (← c.self.view_is) (λ come stands. answers_end _ come _ c.in-Headed.is stands)

pub returns-in-Signatures-clause-batch : goal.returns-in-Signatures-clause-batch
returns-in-Signatures-clause-batch g c =
    rw (← c.self.view_is) (λ come stands. answers_end _ come _ c.in-Signatures.is stands)

pub returns-in-Code-clause-batch : goal.returns-in-Code-clause-batch
returns-in-Code-clause-batch g c = rw (← c.self.view_is) (λ come stands. answers_end _ come _ c.in-Code.is stands)

pub returns-in-Refused-clause-batch : goal.returns-in-Refused-clause-batch
returns-in-Refused-clause-batch g c = rw (← c.self.view_is) (λ come stands. answers_end _ come _ c.in-Refused.is stands)
