use Rattle.std.proofs.Common.{◌≡◌, length, take}
use Rattle.job_steps.specs.Runs.{outcome}
use Rattle.job_steps.specs.States.{ruled}
use Rattle.job_slots.specs.Copies.{AreCopies}
use Rattle.job_slots.proofs.Shown.{values_in}
use Rattle.job_slots.proofs.collect.results.Given as goal

-- so far the values are the first results, and copies of the first cells' blocks
abbrev pub invariant-loop-id : goal.invariant-loop-id
invariant-loop-id g l = record {
  count : length l.values.items ≡ length l.yielded;
  first : l.values.items ≡ take (length l.yielded) (values_in (outcome (ruled l.fn.turn.rule l.job)));
  copies : AreCopies l.blocks.memory l.cells l.values.items;
}
