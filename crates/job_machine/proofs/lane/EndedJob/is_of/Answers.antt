use Rattle.std.proofs.Common.{ap, sym, ◌∙◌, arith}
use Rattle.job_machine.specs.Lanes.{EndedState}
use Rattle.job_machine.proofs.LaneLemmas.{is_number, of_other_rule, of_same_rule, task_of}
use Rattle.job_machine.proofs.lane.EndedJob.is_of.Goals as goal

pub offset_bounds-as_slice-self-inside : goal.offset_bounds-as_slice-self-inside
offset_bounds-as_slice-self-inside g c = grind (arith, is_number)

pub bounds-as_slice-self-inside : goal.bounds-as_slice-self-inside
bounds-as_slice-self-inside g c = grind (arith, is_number)

pub returns-then-not-same_rule : goal.returns-then-not-same_rule
returns-then-not-same_rule g c = grind (arith, is_number, of_other_rule)

pub returns : goal.returns
returns g c =
    let read = c.as_slice.ensures.value ∙ ap (λ v. v.items) c.deref.ensures in
    let is = is_number c.self.inside.rule _ c.self.inside.number c.self.invariant.task c.self.invariant.task_is in
    let task_is = task_of c.self.inside.rule _ c.self.inside.number c.index-as_slice-self.result is.least is.within
    (rw read at c.index-as_slice-self.is) in
    of_same_rule _ _ _ _ c.args.job.now _ (sym (ap (λ (e : EndedState). e.task) c.self.view_is) ∙ task_is)
    (c.same_rule.ensures.0 c.if-not-same_rule.false) c.equal_jobs.ensures
