-- The lines of a body, with more after them, and their targets.
use Rattle.std.proofs.lemmas.Bool.Decides.{nat_tests}
use Rattle.std.proofs.Common.{◌≡◌, ℕ, zero, suc, ◌+◌, List, [], ◌∷◌, ◌++◌, length, drop, arith, length-append}
use Rattle.std.specs.Prelude.{slice_get}
use Rattle.vcode_reader.specs.declared.line.CodeItem.TheVariants as code_item
use Rattle.vcode_reader.specs.Targets.{jumps_from, targets_of, target_in, EachPartIsPassed, EachTargetIsFirst}
use Rattle.vcode_reader.specs.Trees.{Body, End, Do, Choice, CodeLine, line_of, body_lines}
use Rattle.vcode_reader.proofs.Drafting.{regroup}

-- ---- the targets of lines

-- what waits after a body waits before it
waits-body_lines : (b : Body) (place : ℕ) (rest : List CodeLine) →
    (jumps_from place (body_lines b ++ rest)).waits ≡ (jumps_from (place + length (body_lines b)) rest).waits
unfolding jumps_from
waits-body_lines End place rest = grind (arith, nat_tests)
waits-body_lines (Do i l b) place rest = grind (arith, nat_tests, waits-body_lines b (place + 1) rest)
waits-body_lines (Choice l x y e b) place rest =
    grind (arith, length-append, regroup, waits-body_lines b, waits-body_lines y, waits-body_lines x)

-- the target at a place is the first of those from the place on
from_place : (lines : List CodeLine) (begun place : ℕ) (x : CodeLine) (rest : List CodeLine) →
    drop place lines ≡ x ∷ rest →
    target_in (slice_get (jumps_from begun lines).list place)
    ≡ target_in (slice_get (jumps_from (begun + place) (x ∷ rest)).list 0)
unfolding jumps_from
from_place [] begun zero x rest h = grind arith
from_place [] begun (suc place) x rest h = grind arith
from_place (y ∷ lines) begun zero x rest h = grind arith
from_place (y ∷ lines) begun (suc place) x rest h =
    let same : (begun + 1) + place ≡ begun + suc place = omega arith in
    grind (arith, rw same at (from_place lines (begun + 1) place x rest h))

pub each_target_is_first : EachTargetIsFirst
unfolding targets_of
each_target_is_first lines place x rest h = let at = from_place lines 0 place x rest h in grind arith

pub each_part_is_passed : EachPartIsPassed
unfolding targets_of jumps_from
each_part_is_passed lines place line number inner rest = (
  λ h.
      let after : List CodeLine = line_of code_item.Else number ∷ rest in
      let at = from_place lines 0 place (line_of code_item.If line) (body_lines inner ++ after) h in
      grind (arith, waits-body_lines inner (0 + place + 1) after),
  λ h.
      let after : List CodeLine = line_of code_item.Endif number ∷ rest in
      let at = from_place lines 0 place (line_of code_item.Else line) (body_lines inner ++ after) h in
      grind (arith, waits-body_lines inner (0 + place + 1) after),
)
