-- The lines of a function that is being read, with its open IFs.
use Rattle.std.specs.Prelude.{ℕ, Bool, true, false, not, List, [], ◌∷◌, ◌++◌, refl, if◌then◌else◌}
use Rattle.std.specs.Coded.{Coded, code_by, coded×, coded_list}
use Rattle.vcode_reader.specs.declared.line.CodeItem.TheVariants as code_item
use Rattle.vcode_reader.specs.declared.place.OpenIf.{OpenIf}
use Rattle.vcode_reader.specs.Decode.{AreBodyLines}
use Rattle.vcode_reader.specs.Trees.{Item, Body, End, CodeLine, line_of, instruction_line, body_lines}

-- the lines so far, and the IFs that wait for their ENDIF, the innermost first
pub record DraftState : Type 0 where
  pub lines : List CodeLine
  pub ifs : List OpenIf

abbrev pub no_lines : DraftState
no_lines = record { lines = []; ifs = [] }

abbrev pub open_if : ℕ → Bool → OpenIf
open_if l has_else = record { line = l; has_else = has_else }

abbrev pub with_item : Item → ℕ → DraftState → DraftState
with_item i l d = record d { lines = d.lines ++ instruction_line i l ∷ [] }

abbrev pub with_if : ℕ → DraftState → DraftState
with_if l d = record { lines = d.lines ++ line_of code_item.If l ∷ []; ifs = open_if l false ∷ d.ifs }

-- the line of the innermost open IF, or that of the function
abbrev pub innermost_line : List OpenIf → ℕ → ℕ
innermost_line [] l = l
innermost_line (i ∷ is) l = i.line

-- the innermost IF has no ELSE yet
abbrev pub takes_else : List OpenIf → Bool
takes_else [] = false
takes_else (i ∷ is) = not i.has_else

abbrev pub is_open : List OpenIf → Bool
is_open [] = false
is_open (i ∷ is) = true

abbrev pub else_in : List OpenIf → List CodeLine → DraftState
else_in [] lines = record { lines = lines; ifs = [] }
else_in (i ∷ is) lines =
    record { lines = lines ++ line_of code_item.Else i.line ∷ []; ifs = open_if i.line true ∷ is }

abbrev pub with_else : DraftState → DraftState
with_else d = else_in d.ifs d.lines

-- an IF that has no ELSE gets one before its ENDIF
abbrev pub lines_after_endif : OpenIf → ℕ → List CodeLine → List CodeLine
lines_after_endif i e lines =
    if i.has_else then lines ++ line_of code_item.Endif e ∷ []
    else (lines ++ line_of code_item.Else i.line ∷ []) ++ line_of code_item.Endif e ∷ []

abbrev pub endif_in : ℕ → List OpenIf → List CodeLine → DraftState
endif_in e [] lines = record { lines = lines; ifs = [] }
endif_in e (i ∷ is) lines = record { lines = lines_after_endif i e lines; ifs = is }

abbrev pub with_endif : ℕ → DraftState → DraftState
with_endif e d = endif_in e d.ifs d.lines

-- what closes an open IF: its second part if it has no ELSE yet, the line of its ENDIF, and what follows that
pub record Closing : Type 0 where
  pub second : Body
  pub end : ℕ
  pub after : Body

-- the lines of an ELSE and the part after it, if the IF has none yet
abbrev pub else_part : OpenIf → Body → List CodeLine
else_part i second = if i.has_else then [] else line_of code_item.Else i.line ∷ body_lines second

-- the first of them; if none is given, an empty part
abbrev pub first_closing : List Closing → Closing
first_closing [] = record { second = End; end = 0; after = End }
first_closing (c ∷ cs) = c

abbrev pub other_closings : List Closing → List Closing
other_closings [] = []
other_closings (c ∷ cs) = cs

-- the lines that close open IFs, after a rest of the innermost part
abbrev pub endings : List OpenIf → Body → List Closing → List CodeLine
endings [] b cs = body_lines b
endings (i ∷ is) b cs =
    body_lines b ++ (else_part i
    (first_closing cs).second ++ (line_of code_item.Endif (first_closing cs).end ∷ endings is
    (first_closing cs).after (other_closings cs)))

-- however the open IFs are closed, the lines are then those of a body
pub record IsDraft (ifs : List OpenIf) (lines : List CodeLine) : Type 0 where
  pub closes : (b : Body) (cs : List Closing) → AreBodyLines (lines ++ endings ifs b cs)

abbrev pub draft_code : Coded CodeLine → Coded OpenIf → Coded DraftState
draft_code line ifs =
    code_by (List CodeLine × List OpenIf) (coded× (coded_list line) (coded_list ifs))
    (λ d. (d.lines, d.ifs)) (λ p. record { lines = p.0; ifs = p.1 }) (λ _. refl)
