-- A job that runs alone on a lane ends, is collected, and leaves the region without a job.
use Rattle.std.proofs.Common.{◌≡◌, ◌-◌, ◌<◌, length, get_or, ap, ◌∙◌, arith}
use Rattle.std.specs.Arc.{arc_value}
use Rattle.std.proofs.lemmas.List.{length-map}
use Rattle.job_steps.specs.States.{ruled}
use Rattle.job_machine.proofs.LaneLemmas.{fits_at, task_of}
use Rattle.job_machine.proofs.lane.Lane.run.Given.{Over}
use Rattle.job_machine.proofs.lane.Lane.run.Goals as goal
use Rattle.job_machine.proofs.lane.Lane.run.Goals.{After-index-as_slice-job}

-- the number is that of a job
within : (g : Over) (c : After-index-as_slice-job g) → c.args.job - 1 < length (arc_value c.self.inside.jobs).items
within g c = grind (arith, length-map)

-- the job is the one of that number
own : (g : Over) (c : After-index-as_slice-job g) → c.index-as_slice-job.result ≡ get_or
    (arc_value c.self.inside.jobs).items (c.args.job - 1) c.index-as_slice-job.result
own g c = rw (c.as_slice.ensures.value ∙ ap (λ v. v.items) c.deref.ensures) at c.index-as_slice-job.is

pub run_apart-requires-clause-room : goal.run_apart-requires-clause-room
run_apart-requires-clause-room g c =
    let at = (goal.at.run_apart-requires-clause-room g c).After-index-as_slice-job in
    fits_at _ _ _ _ c.index-as_slice-job.result (own g at) (within g at) c.self.invariant.room

pub run_apart-requires-clause-enough : goal.run_apart-requires-clause-enough
run_apart-requires-clause-enough g c =
    let at = (goal.at.run_apart-requires-clause-enough g c).After-index-as_slice-job in
    fits_at _ _ _ _ c.index-as_slice-job.result (own g at) (within g at) c.self.invariant.enough

pub invariant_of-lane : goal.invariant_of-lane
invariant_of-lane g c = record {
  vacant = c.in_ok-slot.ensures.vacant;
  numbers = c.in_ok-slot.ensures.numbers ∙ c.self.invariant.numbers;
  room = rw c.in_ok-slot.ensures.room c.self.invariant.room;
  enough = rw c.in_ok-slot.ensures.desk c.self.invariant.enough;
}

pub invariant_of-ended : goal.invariant_of-ended
invariant_of-ended g c =
    let at = (goal.at.invariant_of-ended g c).After-index-as_slice-job in
    record {
      task = ruled c.self.inside.rule c.index-as_slice-job.result;
      task_is = rw c.in_ok-list.ensures
          (task_of c.self.inside.rule _ c.args.job _ c.requires.0 (within g at) (own g at));
      end = c.in_ok-slot.ensures.end;
    }
