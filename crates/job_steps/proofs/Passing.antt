-- What the code passes over: what remains stays as it is.
use Rattle.std.proofs.Common.{◌≡◌, ◌∙◌, ◌+◌, ◌<◌, ℕ, zero, suc, List, [], ◌∷◌, ◌++◌, drop, Some, refl, ap, sym, subst}
use Rattle.std.proofs.Common.{arith, append_assoc}
use Rattle.std.specs.Prelude.{slice_get}
use Rattle.std.proofs.lemmas.List.{drop-drop}
use Rattle.vcode_base.specs.declared.instr.Instr.TheVariants.{Return}
use Rattle.vcode_reader.specs.declared.line.CodeItem.{CodeItem}
use Rattle.vcode_reader.specs.Decode.{Tail, Waits, ForElse, ForIf, before, before_else, before_if, tail_of, then_body}
use Rattle.vcode_reader.specs.Targets.{first_of, jumps_before, jumps_from, target_in, target_at, EachTargetIsFirst}
use Rattle.vcode_reader.specs.Trees.{Item, Body, End, Do, Choice, CodeLine, Function, line_of, instruction_line}
use Rattle.vcode_reader.specs.Trees.{body_lines, lines_of}
use Rattle.job_steps.specs.Frames.{rest_behind, rest_of_tail, remaining, EachLineRemains}
use Rattle.vcode_reader.specs.declared.line.CodeItem.TheVariants as code_item

-- ---- bodies one after another

pub then_end : (b : Body) → then_body b End ≡ b
unfolding then_body
then_end End = refl
then_end (Do i l b) = ap (Do i l) (then_end b)
then_end (Choice l x y e b) = ap (Choice l x y e) (then_end b)

pub then_assoc : (a b c : Body) → then_body (then_body a b) c ≡ then_body a (then_body b c)
unfolding then_body
then_assoc End b c = refl
then_assoc (Do i l a) b c = ap (Do i l) (then_assoc a b c)
then_assoc (Choice l x y e a) b c = ap (Choice l x y e) (then_assoc a b c)

-- ---- the tail that begins with a body

unfoldable pub then_tail : Body → Tail → Tail
then_tail b t = record { body = then_body b t.body; waits = t.waits }

pub tail_of_body : (b : Body) (xs : List CodeLine) → tail_of (body_lines b ++ xs) ≡ then_tail b (tail_of xs)
unfolding tail_of then_tail then_body
tail_of_body End xs = refl
tail_of_body (Do i l b) xs = ap (before (code_item.Do i) l) (tail_of_body b xs)
tail_of_body (Choice l x y e b) xs =
    grind (arith, append_assoc, then_end, (tail_of_body x), (tail_of_body y), (tail_of_body b xs))

-- what remains of a function from its first line on is all of it
pub remaining_of_all : (f : Function) → remaining (lines_of f) ≡ then_body f.body (Do Return f.ret End)
unfolding then_tail tail_of then_body
remaining_of_all f = grind (arith, tail_of_body, then_end)

-- ---- lines each of which finds what it needs after it

abbrev FitsBefore : CodeItem Item → List Waits → Type 0
FitsBefore code_item.If (ForIf s e r ∷ ws) = Unit {0}
FitsBefore code_item.If ws = ⊥
FitsBefore code_item.Else (ForElse e r ∷ ws) = Unit {0}
FitsBefore code_item.Else ws = ⊥
FitsBefore item ws = Unit {0}

abbrev Fits : List CodeLine → Type 0
Fits [] = Unit {0}
Fits (x ∷ xs) = FitsBefore x.item (tail_of xs).waits × Fits xs

fits_drop : (n : ℕ) (xs : List CodeLine) → Fits xs → Fits (drop n xs)
fits_drop zero xs h = h
fits_drop (suc n) xs h = grind (arith, (fits_drop n))

fits_body : (b : Body) (xs : List CodeLine) → Fits xs → Fits (body_lines b ++ xs)
unfolding tail_of then_tail
fits_body End xs h = h
fits_body (Do i l b) xs h = (tt, fits_body b xs h)
fits_body (Choice l x y e b) xs h =
    grind (arith, append_assoc, tail_of_body, (fits_body x), (fits_body y), (fits_body b xs h))

fits : (f : Function) → Fits (lines_of f)
unfolding tail_of
fits f = fits_body f.body (instruction_line Return f.ret ∷ []) (tt, tt)

-- ---- the places that IFs and ELSEs wait for

-- the tail at each place, all of which lie past this one, is the awaited one
abbrev Agree : List CodeLine → ℕ → List Waits → List ℕ → Type 0
Agree whole p [] qs = Unit {0}
Agree whole p (w ∷ ws) [] = ⊥
Agree whole p (ForElse e r ∷ ws) (q ∷ qs) =
    (p < q) × (tail_of (drop q whole) ≡ record { body = r; waits = ws }) × Agree whole p ws qs
Agree whole p (ForIf s e r ∷ ws) (q ∷ qs) =
    (p < q) × (tail_of (drop q whole) ≡ record { body = s; waits = ForElse e r ∷ ws }) × Agree whole p ws qs

sooner : (whole : List CodeLine) (p : ℕ) (ws : List Waits) (qs : List ℕ) → Agree whole (p + 1) ws qs →
    Agree whole p ws qs
sooner whole p [] qs h = tt
sooner whole p (w ∷ ws) qs h = grind (arith, (sooner whole p ws))

pub next_lines : (whole : List CodeLine) (p : ℕ) (x : CodeLine) (xs : List CodeLine) → drop p whole ≡ x ∷ xs →
    drop (p + 1) whole ≡ xs
next_lines whole p x xs h = sym (drop-drop 1 p whole) ∙ ap (drop 1) h

agree : (whole : List CodeLine) (p : ℕ) (xs : List CodeLine) → drop p whole ≡ xs → Fits xs →
    Agree whole p (tail_of xs).waits (jumps_from p xs).waits
unfolding tail_of jumps_from
agree whole p [] at fit = tt
agree whole p (x ∷ xs) at fit = grind (arith, next_lines, sooner, (agree whole (p + 1) xs))

-- ---- what an ELSE and an IF go on with

-- the target of an ELSE
pub record PassesElse (whole : List CodeLine) (p : ℕ) : Type 0 where
  pub next : ℕ
  pub target : EachTargetIsFirst → target_at whole p ≡ Some next
  pub later : p < next
  pub same : remaining (drop next whole) ≡ remaining (drop p whole)

-- the places at which an IF goes on, by its flag
pub record Chooses (whole : List CodeLine) (p line : ℕ) : Type 0 where
  pub first : Body
  pub second : Body
  pub end : ℕ
  pub rest : Body
  pub choice : remaining (drop p whole) ≡ Choice line first second end rest
  pub chosen : remaining (drop (p + 1) whole) ≡ then_body first rest
  pub next : ℕ
  pub target : EachTargetIsFirst → target_at whole p ≡ Some next
  pub other : remaining (drop next whole) ≡ then_body second rest

passes_by : (whole : List CodeLine) (p l : ℕ) (b : Body) (ws : List Waits) (qs : List ℕ) →
    FitsBefore code_item.Else ws → Agree whole p ws qs → (EachTargetIsFirst → target_at whole p ≡ first_of qs) →
    remaining (drop p whole) ≡ rest_of_tail (before_else b ws) → PassesElse whole p
unfolding then_body
passes_by whole p l b (ForElse e r ∷ ws) [] fit h target here = absurd h
passes_by whole p l b (ForElse e r ∷ ws) (q ∷ qs) fit h target here =
    record { next = q; target = target; later = h.0; same = ap rest_of_tail h.1 ∙ sym here }
passes_by whole p l b ws qs fit h target here = absurd fit

pub chooses_by : (whole : List CodeLine) (p l : ℕ) (b : Body) (ws : List Waits) (qs : List ℕ) →
    FitsBefore code_item.If ws → Agree whole p ws qs → (EachTargetIsFirst → target_at whole p ≡ first_of qs) →
    remaining (drop p whole) ≡ rest_of_tail (before_if l b ws) →
    remaining (drop (p + 1) whole) ≡ then_body b (rest_behind ws) → Chooses whole p l
unfolding then_body
chooses_by whole p l b (ForIf s e r ∷ ws) [] fit h target here on = absurd h
chooses_by whole p l b (ForIf s e r ∷ ws) (q ∷ qs) fit h target here on = record {
  first = b;
  second = s;
  end = e;
  rest = then_body r (rest_behind ws);
  choice = here;
  chosen = on;
  next = q;
  target = target;
  other = ap rest_of_tail h.1;
}
chooses_by whole p l b ws qs fit h target here on = absurd fit

module _ (f : Function) (p l : ℕ) (xs : List CodeLine) where
  fits_there : (x : CodeLine) → drop p (lines_of f) ≡ x ∷ xs → Fits (x ∷ xs)
  fits_there x at = subst Fits at (fits_drop p (lines_of f) (fits f))

  agree_there : (x : CodeLine) → drop p (lines_of f) ≡ x ∷ xs →
      Agree (lines_of f) p (tail_of xs).waits (jumps_from (p + 1) xs).waits
  agree_there x at =
      sooner (lines_of f) p (tail_of xs).waits (jumps_from (p + 1) xs).waits
      (agree (lines_of f) (p + 1) xs (next_lines (lines_of f) p x xs at) (fits_there x at).1)

  target_there : (x : CodeLine) → drop p (lines_of f) ≡ x ∷ xs → EachTargetIsFirst →
      target_at (lines_of f) p ≡ target_in (slice_get (jumps_before x.item p (jumps_from (p + 1) xs)).list 0)
  unfolding jumps_from
  target_there x at first = first (lines_of f) p x xs at

  pub else_passes : drop p (lines_of f) ≡ line_of code_item.Else l ∷ xs → PassesElse (lines_of f) p
  unfolding tail_of
  else_passes at =
      passes_by (lines_of f) p l (tail_of xs).body (tail_of xs).waits (jumps_from (p + 1) xs).waits
      (fits_there (line_of code_item.Else l) at).0 (agree_there (line_of code_item.Else l) at)
      (target_there (line_of code_item.Else l) at) (ap remaining at)

  pub if_chooses : drop p (lines_of f) ≡ line_of code_item.If l ∷ xs → Chooses (lines_of f) p l
  unfolding tail_of
  if_chooses at =
      chooses_by (lines_of f) p l (tail_of xs).body (tail_of xs).waits (jumps_from (p + 1) xs).waits
      (fits_there (line_of code_item.If l) at).0 (agree_there (line_of code_item.If l) at)
      (target_there (line_of code_item.If l) at) (ap remaining at)
      (ap remaining (next_lines (lines_of f) p (line_of code_item.If l) xs at))

-- ---- an instruction and an ENDIF

pub remaining_do : (i : Item) (l : ℕ) (xs : List CodeLine) → remaining (instruction_line i l ∷ xs) ≡ Do i l
    (remaining xs)
unfolding tail_of then_body
remaining_do i l xs = refl

pub remaining_nothing : remaining [] ≡ End
unfolding tail_of then_body
remaining_nothing = refl

pub each_line_remains : EachLineRemains
unfolding tail_of then_body then_tail
each_line_remains item line number end first second rest = grind (arith, tail_of_body, then_end)
