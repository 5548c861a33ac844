-- Lists of jobs in which one job has another standing.
use Rattle.std.proofs.Common.{◌≡◌, ℕ, zero, suc, ◌+◌, ◌<◌, ◌≤◌, Bool, true, false, ◌&&◌, List, [], ◌∷◌, length, map}
use Rattle.std.proofs.Common.{option_map, set, slice_get, All, Option, Some, None, refl, sym, ◌∙◌, arith, length-set}
use Rattle.std.proofs.lemmas.List.Elements.{All-nil, All-head, All-tail}
use Rattle.std.proofs.lemmas.Option.{none-some, same_Some, slice_get-map, slice_get_within, get_or_from_slice_get}
use Rattle.vcode_base.specs.declared.limits.TheConstants.{MOST_PASSES}
use Rattle.job_steps.specs.EventLaws.{HasRoom}
use Rattle.job_steps.specs.Standings.{Standing, Waiting, Queue, of_job, with_standing, AreFew, first_standings}
use Rattle.job_steps.specs.Standings.{is_waiting, sum_over, granted_words, has_room, is_passed_enough, admission_from}
use Rattle.job_steps.specs.Standings.{admission, passes_before}
use Rattle.job_steps.specs.States.{Task}

-- ---- places

get-set_same : {X : Type 0} (xs : List X) (i : ℕ) (x y : X) → slice_get xs i ≡ Some x →
    slice_get (set xs i y) i ≡ Some y
get-set_same [] i x y e = absurd (none-some x e)
get-set_same (z ∷ xs) i x y e = grind (arith, (get-set_same xs))

get-set_other : {X : Type 0} (xs : List X) (i j : ℕ) (y : X) → (i ≡ j → ⊥) → slice_get (set xs i y) j ≡ slice_get xs j
get-set_other [] i j y ne = refl
get-set_other (z ∷ xs) i j y ne = grind (arith, (get-set_other xs))

pub set_back : {X : Type 0} (xs : List X) (i : ℕ) (x y : X) → slice_get xs i ≡ Some x → set (set xs i y) i x ≡ xs
set_back [] i x y e = refl
set_back (z ∷ xs) i x y e = grind (arith, (set_back xs))

-- ---- jobs

pub of_with : (job : ℕ) (standings : List Standing) (old new : Standing) → of_job job standings ≡ Some old →
    of_job job (with_standing job new standings) ≡ Some new
of_with job standings old new e = grind (arith, get-set_same)

pub of_with_other : (job other : ℕ) (standings : List Standing) (new : Standing) → (job ≡ other → ⊥) →
    of_job other (with_standing job new standings) ≡ of_job other standings
of_with_other job other standings new ne = grind (arith, get-set_other)

pub with_length : (job : ℕ) (standings : List Standing) (new : Standing) →
    length (with_standing job new standings) ≡ length standings
with_length job standings new = grind (arith, length-set)

-- what holds of each task holds of that of a number
pub all_of : (P : Task → Type 0) (tasks : List Task) → All P tasks → (job : ℕ) (task : Task) →
    of_job job tasks ≡ Some task → P task
all_of P tasks each job task e = grind (arith, get_or_from_slice_get, slice_get_within)

-- lists of one length have something at the same places
pub beside_at : {X Y : Type 0} (xs : List X) (ys : List Y) → length ys ≡ length xs → (i : ℕ) (x : X) →
    slice_get xs i ≡ Some x → (y : Y) × (slice_get ys i ≡ Some y)
beside_at [] ys same i x e = absurd (none-some x e)
beside_at (z ∷ xs) [] same i x e = absurd (omega (arith, same))
beside_at (z ∷ xs) (y ∷ ys) same zero x e = (y, refl)
beside_at (z ∷ xs) (y ∷ ys) same (suc i) x e = beside_at xs ys (omega (arith, same)) i x e

pub beside : (tasks : List Task) (standings : List Standing) → length standings ≡ length tasks →
    (job : ℕ) (task : Task) → of_job job tasks ≡ Some task → (standing : Standing) ×
    (of_job job standings ≡ Some standing)
beside tasks standings same job task e = grind (arith, beside_at)

-- the standing that was changed to this one
pub of_mapped : (change : Standing → Standing) (standings : List Standing) (job : ℕ) (new : Standing) →
    of_job job (map change standings) ≡ Some new → (old : Standing) × (of_job job standings ≡ Some old) ×
    (change old ≡ new)
of_mapped change standings zero new e = absurd (none-some new e)
of_mapped change standings (suc i) new e = mapped_in _ (sym (slice_get-map change standings i) ∙ e)
  where
    mapped_in : (o : Option Standing) → option_map change o ≡ Some new →
        (old : Standing) × (o ≡ Some old) × (change old ≡ new)
    mapped_in None h = absurd (none-some new h)
    mapped_in (Some old) h = (old, refl, same_Some (change old) new h)

-- ---- sums

sum_set : (number : Task → Standing → ℕ) (tasks : List Task) (standings : List Standing) (i : ℕ) (task : Task)
    (old new : Standing) → slice_get tasks i ≡ Some task → slice_get standings i ≡ Some old →
    sum_over number tasks (set standings i new) + number task old ≡ sum_over number tasks standings + number task new
sum_set number [] standings i task old new t e = absurd (none-some task t)
sum_set number (k ∷ tasks) standings i task old new t e = grind (arith, (sum_set number tasks))

pub sum_with : (number : Task → Standing → ℕ) (tasks : List Task) (standings : List Standing) (job : ℕ) (task : Task)
    (old new : Standing) → of_job job tasks ≡ Some task → of_job job standings ≡ Some old →
    sum_over number tasks (with_standing job new standings) + number task old ≡ sum_over number tasks standings + number
    task new
sum_with number tasks standings job task old new t e = grind (arith, sum_set)

pub sum_mapped : (number : Task → Standing → ℕ) (change : Standing → Standing) →
    ((task : Task) (s : Standing) → number task (change s) ≡ number task s) →
    (tasks : List Task) (standings : List Standing) → sum_over number tasks (map change standings) ≡ sum_over number
    tasks standings
sum_mapped number change same [] standings = refl
sum_mapped number change same (t ∷ tasks) standings = grind (arith, (sum_mapped number change same tasks))

pub none_granted : (tasks : List Task) → granted_words tasks (first_standings tasks) ≡ 0
none_granted [] = refl
none_granted (t ∷ tasks) = omega (arith, none_granted tasks)

-- ---- admission

-- each job that waits before this place doesn't fit, and was passed by fewer times than the most
abbrev pub PassableBefore : (Task → Bool) → List Task → List Standing → List ℕ → ℕ → Type 0
PassableBefore fits tasks standings passes place =
    (i : ℕ) (task : Task) → i < place → slice_get tasks i ≡ Some task → slice_get standings i ≡ Some Waiting →
    (fits task ≡ false) × ((count : ℕ) → slice_get passes i ≡ Some count → count < MOST_PASSES)

-- the job that is admitted next among those from a number on, by its place among them
pub record Found (first : ℕ) (fits : Task → Bool) (tasks : List Task) (standings : List Standing) (passes : List ℕ)
    (job : ℕ) : Type 0 where
  pub place : ℕ
  pub task : Task
  pub job_is : job ≡ place + first
  pub task_is : slice_get tasks place ≡ Some task
  pub waits : slice_get standings place ≡ Some Waiting
  pub fits_is : fits task ≡ true
  pub few : AreFew passes → AreFew (passes_before place standings passes)
  pub before : PassableBefore fits tasks standings passes place

module _ (first : ℕ) (fits : Task → Bool) (t : Task) (tasks : List Task) (s : Standing) (standings : List Standing)
    (count : ℕ) (passes : List ℕ) (job : ℕ) where
  next_here : (is_waiting s && fits t) ≡ true → first ≡ job →
      Found first fits (t ∷ tasks) (s ∷ standings) (count ∷ passes) job
  next_here b e = record {
    place = zero;
    task = t;
    job_is = grind arith;
    task_is = refl;
    waits = grind arith;
    fits_is = grind arith;
    few = λ all. all;
    before = λ i task less t w. absurd (omega (arith, less));
  }

  -- one job more, which may be passed by
  passable_more : (place : ℕ) → (is_waiting s && fits t) ≡ false → is_passed_enough s count ≡ false →
      PassableBefore fits tasks standings passes place →
      PassableBefore fits (t ∷ tasks) (s ∷ standings) (count ∷ passes) (suc place)
  passable_more place b c before zero task less t_is w = grind arith
  passable_more place b c before (suc i) task less t_is w = before i task (omega (arith, less)) t_is w

  next_behind : (is_waiting s && fits t) ≡ false → is_passed_enough s count ≡ false →
      Found (suc first) fits tasks standings passes job →
      Found first fits (t ∷ tasks) (s ∷ standings) (count ∷ passes) job
  next_behind b c n = record {
    place = suc n.place;
    task = n.task;
    job_is = omega (arith, n.job_is);
    task_is = n.task_is;
    waits = n.waits;
    fits_is = n.fits_is;
    few = λ all. let later = n.few (All-tail (λ (k : ℕ). k ≤ MOST_PASSES) count passes all) in grind (arith, All-head);
    before = passable_more n.place b c n.before;
  }

is_next : (first : ℕ) (fits : Task → Bool) (tasks : List Task) (standings : List Standing) (passes : List ℕ) (job : ℕ) →
    admission_from first fits tasks standings passes ≡ Some job → Found first fits tasks standings passes job
is_next first fits (t ∷ tasks) (s ∷ standings) (count ∷ passes) job e =
    grind (arith, next_here, next_behind, (is_next (suc first) fits tasks standings passes job))
is_next first fits tasks standings passes job e = absurd (none-some job e)

module _ (region : ℕ) (tasks : List Task) (queue : Queue) where
  pub admitted_next : (job : ℕ) → admission region tasks queue ≡ Some job →
      Found 1 (has_room region (granted_words tasks queue.standings)) tasks queue.standings queue.passes job
  unfolding admission
  admitted_next job e = grind (arith, is_next)

  pub admitted_has_room : (job : ℕ) → admission region tasks queue ≡ Some job → HasRoom region tasks queue.standings job
  admitted_has_room job e =
      let n = admitted_next job e in
      record { task = n.task; task_is = grind arith; waits = grind arith; room = grind arith }

  -- a job that is admitted has room
  pub admitted_room : (job : ℕ) → admission region tasks queue ≡ Some job → (task : Task) →
      of_job job tasks ≡ Some task → granted_words tasks queue.standings + task.limits.words ≤ region
  admitted_room job e task t = let h = admitted_has_room job e in grind arith

  -- the passes stay few
  pub admitted_few : (place : ℕ) → admission region tasks queue ≡ Some (suc place) → AreFew queue.passes →
      AreFew (passes_before place queue.standings queue.passes)
  admitted_few place e all = let n = admitted_next (suc place) e in grind arith

  -- the job that is found is admitted
  pub admits : (o : Option ℕ) → admission_from 1 (has_room region (granted_words tasks queue.standings)) tasks
      queue.standings queue.passes ≡ o → admission region tasks queue ≡ o
  unfolding admission
  admits o e = e
  -- ---- passes

pub passes_length : (place : ℕ) (standings : List Standing) (passes : List ℕ) →
    length (passes_before place standings passes) ≡ length passes
passes_length zero standings passes = refl
passes_length (suc place) standings passes = grind (arith, (passes_length place))

-- a job that doesn't wait isn't passed by
pub not_passed : (place : ℕ) (standings : List Standing) (passes : List ℕ) (i : ℕ) →
    (slice_get standings i ≡ Some Waiting → ⊥) →
    slice_get (passes_before place standings passes) i ≡ slice_get passes i
not_passed zero standings passes i moved = refl
not_passed (suc place) standings passes i moved = grind (arith, (not_passed place))

pub none_passed : (tasks : List Task) → AreFew (map (λ (task : Task). 0) tasks)
none_passed [] = All-nil (λ (k : ℕ). k ≤ MOST_PASSES)
none_passed (t ∷ tasks) = grind (arith, (none_passed tasks))
