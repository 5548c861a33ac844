-- What a step makes of the run of a job.
use Rattle.std.proofs.Common.{List, ◌≡◌, suc, ◌+◌, max, sym, ◌∙◌, ap, inl, arith}
use Rattle.std.specs.Prelude.{◌⊎◌}
use Rattle.vcode_base.specs.declared.rule.Rule.{Rule}
use Rattle.vcode_reader.specs.Trees.{Item}
use Rattle.job_steps.specs.EventLaws.{EarlyEndsEnd, OthersAreReady}
use Rattle.job_steps.specs.Reached.{IsVerifiedBySome, NeverStuck, Reaches}
use Rattle.job_steps.specs.Runs.{executed_count_in, peak_in, progress_from, state_after}
use Rattle.job_steps.specs.States.{Task, State, Active}
use Rattle.job_steps.specs.Steps.{Progress, Running, Over, Stuck, progress_past, words_at}
use Rattle.job_profile.specs.Moves.{HasExecuted, HasStayed, IsOnRun, StepsMove}

past : (rule : Rule) (item : Item) (s : State) (calls : List Active) →
    (executed_count_in (progress_past rule item s calls) ≡ s.executed + 1)
    × (peak_in (progress_past rule item s calls) ≡ max s.peak (words_at rule item s))
past rule item s calls = grind arith

moves_at : EarlyEndsEnd → OthersAreReady → (task : Task) → IsVerifiedBySome task.verified → (s : State) (q : Progress) →
    state_after task s.executed ≡ Running s → q ≡ state_after task (suc s.executed) →
    HasStayed (Running s) q ⊎ HasExecuted task (Running s) q
moves_at ends ready task verified s q runs after =
    let over = ends verified.0 task verified.1 s.executed s in
    let go = ready verified.0 task verified.1 s.executed s runs in
    grind (arith, past)

moves_by : EarlyEndsEnd → OthersAreReady → NeverStuck → Reaches → (task : Task) (p q : Progress) → IsOnRun task p →
    q ≡ progress_from task p → HasStayed p q ⊎ HasExecuted task p q
moves_by ends ready never reaches task (Running s) q h e =
    let count = (reaches h.verified.0 task h.verified.1 h.steps s (sym h.come)).count in
    let runs : state_after task s.executed ≡ Running s = ap (state_after task) count ∙ sym h.come in
    moves_at ends ready task h.verified s q runs (e ∙ ap (progress_from task) (sym runs))
moves_by ends ready never reaches task (Over ending executed most) q h e = inl (record { ending = ending; over = e })
moves_by ends ready never reaches task Stuck q h e = absurd (never h.verified.0 task h.verified.1 h.steps (sym h.come))

pub moves : EarlyEndsEnd → OthersAreReady → NeverStuck → Reaches → StepsMove
moves ends ready never reaches task p q h e = record {
  on_run = record {
    steps = suc h.steps;
    come = e ∙ ap (progress_from task) h.come;
    verified = h.verified;
  };
  moves = moves_by ends ready never reaches task p q h e;
}
