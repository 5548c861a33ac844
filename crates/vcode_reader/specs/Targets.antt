-- The targets of lines: an IF goes on after its ELSE, and an ELSE after its ENDIF. Every other line goes on at the
-- next.
use Rattle.std.specs.Prelude.{◌≡◌, ℕ, ◌+◌, List, [], ◌∷◌, ◌++◌, length, drop, Option, Some, None, slice_get}
use Rattle.vcode_reader.specs.declared.line.CodeItem.{CodeItem}
use Rattle.vcode_reader.specs.declared.line.CodeItem.TheVariants as code_item
use Rattle.vcode_reader.specs.Trees.{Item, Body, CodeLine, line_of, body_lines}

-- the targets of a tail of the code, and the places after its lines that are targets of an earlier IF or ELSE
pub record Jumps : Type 0 where
  pub list : List (Option ℕ)
  pub waits : List ℕ

abbrev pub first_of : {A : Type 0} → List A → Option A
first_of [] = None
first_of (x ∷ xs) = Some x

abbrev pub others_of : {A : Type 0} → List A → List A
others_of [] = []
others_of (x ∷ xs) = xs

-- one line more in front, at this place
abbrev pub jumps_before : CodeItem Item → ℕ → Jumps → Jumps
jumps_before (code_item.Do i) place j = record { list = None ∷ j.list; waits = j.waits }
jumps_before code_item.If place j = record { list = first_of j.waits ∷ j.list; waits = others_of j.waits }
jumps_before code_item.Else place j =
    record { list = first_of j.waits ∷ j.list; waits = (place + 1) ∷ others_of j.waits }
jumps_before code_item.Endif place j = record { list = None ∷ j.list; waits = (place + 1) ∷ j.waits }

-- the targets of the lines from this place on, and the places that an IF or ELSE in front of them goes on at
unfoldable pub jumps_from : ℕ → List CodeLine → Jumps
jumps_from place [] = record { list = []; waits = [] }
jumps_from place (x ∷ xs) = jumps_before x.item place (jumps_from (place + 1) xs)

unfoldable pub targets_of : List CodeLine → List (Option ℕ)
targets_of lines = (jumps_from 0 lines).list

-- the target of the line at a place, if that isn't the next line
abbrev pub target_in : Option (Option ℕ) → Option ℕ
target_in None = None
target_in (Some target) = target

abbrev pub target_at : List CodeLine → ℕ → Option ℕ
target_at lines place = target_in (slice_get (targets_of lines) place)

-- the target at a place is the first of those from the place on
abbrev pub EachTargetIsFirst : Type 0
EachTargetIsFirst =
    (lines : List CodeLine) (place : ℕ) (x : CodeLine) (rest : List CodeLine) → drop place lines ≡ x ∷ rest →
    target_at lines place ≡ target_in (slice_get (jumps_from place (x ∷ rest)).list 0)

-- The target at the place of a line that begins a part of an IF is the place after the line that ends the part: for an
-- IF the first line after its ELSE, for an ELSE the first line after its ENDIF.
abbrev pub EachPartIsPassed : Type 0
EachPartIsPassed =
    (lines : List CodeLine) (place line number : ℕ) (inner : Body) (rest : List CodeLine) →
    (drop place lines ≡ line_of code_item.If line ∷ (body_lines inner ++ line_of code_item.Else number ∷ rest) →
    target_at lines place ≡ Some (place + length (body_lines inner) + 2))
    × (drop place lines ≡ line_of code_item.Else line ∷ (body_lines inner ++ line_of code_item.Endif number ∷ rest) →
    target_at lines place ≡ Some (place + length (body_lines inner) + 2))
