-- Steps of the jobs of one machine.
use Rattle.std.specs.Prelude.{◌≡◌, ℤ, ⊤, List, Some, refl}
use Rattle.std.specs.Coded.{Coded, code_by, coded_ℤ, coded×, coded_list}
use Rattle.vcode_base.specs.declared.op.Op.{Op}
use Rattle.job_steps.specs.Questions.{Question}
use Rattle.job_steps.specs.States.{Task}
use Rattle.job_slots.specs.declared.answer.Begun.{Begun}
use Rattle.job_slots.specs.declared.answer.Begun.TheVariants as begun
use Rattle.job_steps.specs.Tickets.{Asked}
use Rattle.job_machine.specs.Machines.{asked_in}

-- its instruction and its operands
abbrev pub question_code : Coded Op → Coded Question
question_code op =
    code_by (Op × List (List ℤ)) (coded× op (coded_list (coded_list coded_ℤ))) (λ q. (q.op, q.sources))
    (λ p. record { op = p.0; sources = p.1 }) (λ _. refl)

-- it asks what its job asks at its number
abbrev pub IsOwn : List Task → Asked → Type 0
IsOwn tasks asked = asked_in tasks asked.job asked.step ≡ Some asked.question

-- a ticket that has begun is one of the jobs
abbrev pub IsOwnIn : {A : Type 0} → List Task → Begun A → Type 0
IsOwnIn tasks (begun.Began ticket) = IsOwn tasks ticket
IsOwnIn tasks (begun.Ended desk) = ⊤
IsOwnIn tasks (begun.NotReady desk) = ⊤
IsOwnIn tasks (begun.SmallDesk desk) = ⊤
