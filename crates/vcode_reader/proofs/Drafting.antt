-- What closes the open IFs of a draft, as its lines grow.
use Rattle.std.proofs.Common.{arith, ◌≡◌, ℕ, Bool, true, false, List, [], ◌∷◌, ◌++◌, Some, refl, ap, append_assoc}
use Rattle.std.proofs.lemmas.Bool.Decides.{nat_tests}
use Rattle.std.proofs.lemmas.List.{append-nil}
use Rattle.std.proofs.lemmas.Bool.{not-true}
use Rattle.std.proofs.lemmas.Option.{same_Some}
use Rattle.vcode_base.specs.declared.instr.Instr.TheVariants.{Return}
use Rattle.vcode_reader.specs.declared.line.CodeItem.TheVariants as code_item
use Rattle.vcode_reader.specs.declared.place.OpenIf.{OpenIf}
use Rattle.vcode_reader.specs.Decode.{AreBodyLines, AreLines, AreLines-then, tree_of-body_lines}
use Rattle.vcode_reader.specs.Drafts.{Closing, open_if, takes_else, is_open, lines_after_endif, first_closing}
use Rattle.vcode_reader.specs.Drafts.{other_closings, endings, IsDraft}
use Rattle.vcode_reader.specs.Targets.{first_of, others_of}
use Rattle.vcode_reader.specs.Trees.{Item, Body, End, Do, Choice, CodeLine, line_of, instruction_line, body_lines}

-- this closing before these
abbrev pub closing : Body → ℕ → Body → Closing
closing second e after = record { second = second; end = e; after = after }

pub regroup : (x y b rest : List CodeLine) (i m n : CodeLine) →
    (i ∷ (x ++ (m ∷ (y ++ (n ∷ b))))) ++ rest ≡ i ∷ (x ++ (m ∷ (y ++ (n ∷ (b ++ rest)))))
regroup x y b rest i m n = simp append_assoc

endings_do : (ifs : List OpenIf) (i : Item) (l : ℕ) (b : Body) (cs : List Closing) →
    endings ifs (Do i l b) cs ≡ instruction_line i l ∷ endings ifs b cs
endings_do [] i l b cs = refl
endings_do (o ∷ os) i l b cs = refl

endings_choice : (ifs : List OpenIf) (l : ℕ) (x y : Body) (e : ℕ) (b : Body) (cs : List Closing) →
    endings ifs (Choice l x y e b) cs
    ≡ line_of code_item.If l
    ∷ (body_lines x ++ (line_of code_item.Else l ∷ (body_lines y ++ (line_of code_item.Endif e ∷ endings ifs b cs))))
endings_choice [] l x y e b cs = refl
endings_choice (o ∷ os) l x y e b cs = grind (arith, nat_tests, regroup)

-- one line more, and what closes the draft then
pub item_endings : (ifs : List OpenIf) (lines : List CodeLine) (i : Item) (l : ℕ) (b : Body) (cs : List Closing) →
    (lines ++ instruction_line i l ∷ []) ++ endings ifs b cs ≡ lines ++ endings ifs (Do i l b) cs
item_endings ifs lines i l b cs = grind (arith, nat_tests, append_assoc, endings_do)

pub if_endings : (ifs : List OpenIf) (lines : List CodeLine) (l : ℕ) (b : Body) (cs : List Closing) →
    (lines ++ line_of code_item.If l ∷ []) ++ endings (open_if l false ∷ ifs) b cs
    ≡ lines ++ endings ifs (Choice l b (first_closing cs).second (first_closing cs).end (first_closing cs).after)
    (other_closings cs)
if_endings ifs lines l b cs = grind (arith, nat_tests, append_assoc, endings_choice)

pub else_endings : (is : List OpenIf) (lines : List CodeLine) (l : ℕ) (b : Body) (cs : List Closing) →
    (lines ++ line_of code_item.Else l ∷ []) ++ endings (open_if l true ∷ is) b cs
    ≡ lines ++ endings (open_if l false ∷ is) End
    (closing b (first_closing cs).end (first_closing cs).after ∷ other_closings cs)
else_endings is lines l b cs = append_assoc lines (line_of code_item.Else l ∷ []) (endings (open_if l true ∷ is) b cs)

pub endif_endings : (is : List OpenIf) (lines : List CodeLine) (l e : ℕ) (b : Body) (cs : List Closing) →
    (lines ++ line_of code_item.Endif e ∷ []) ++ endings is b cs
    ≡ lines ++ endings (open_if l true ∷ is) End (closing End e b ∷ cs)
endif_endings is lines l e b cs = append_assoc lines (line_of code_item.Endif e ∷ []) (endings is b cs)

pub alone_endings : (is : List OpenIf) (lines : List CodeLine) (l e : ℕ) (b : Body) (cs : List Closing) →
    ((lines ++ line_of code_item.Else l ∷ []) ++ line_of code_item.Endif e ∷ []) ++ endings is b cs
    ≡ lines ++ endings (open_if l false ∷ is) End (closing End e b ∷ cs)
alone_endings is lines l e b cs = grind (arith, nat_tests, append_assoc)

-- ---- drafts

pub no_draft : IsDraft [] []
no_draft = record { closes = λ b cs. ap body_lines (tree_of-body_lines b) }

pub item_draft : (ifs : List OpenIf) (lines : List CodeLine) (i : Item) (l : ℕ) → IsDraft ifs lines →
    IsDraft ifs (lines ++ instruction_line i l ∷ [])
item_draft ifs lines i l h = grind (arith, nat_tests, item_endings)

pub if_draft : (ifs : List OpenIf) (lines : List CodeLine) (l : ℕ) → IsDraft ifs lines →
    IsDraft (open_if l false ∷ ifs) (lines ++ line_of code_item.If l ∷ [])
if_draft ifs lines l h = grind (arith, nat_tests, if_endings)

open_else : (is : List OpenIf) (lines : List CodeLine) (l : ℕ) → IsDraft (open_if l false ∷ is) lines →
    IsDraft (open_if l true ∷ is) (lines ++ line_of code_item.Else l ∷ [])
open_else is lines l h = record {
  closes = λ b cs.
      let c = first_closing cs in
      rw (else_endings is lines l b cs) (h.closes End (closing b c.end c.after ∷ other_closings cs));
}

pub else_draft : (ifs : List OpenIf) (lines : List CodeLine) (i : OpenIf) → Some i ≡ first_of ifs →
    takes_else ifs ≡ true → IsDraft ifs lines →
    IsDraft (open_if i.line true ∷ others_of ifs) (lines ++ line_of code_item.Else i.line ∷ [])
else_draft ifs lines i e t h = grind (arith, nat_tests, same_Some, open_else, not-true)

open_endif : (e : ℕ) (is : List OpenIf) (lines : List CodeLine) (t : Bool) (l : ℕ) →
    IsDraft (open_if l t ∷ is) lines →
    IsDraft is (lines_after_endif (open_if l t) e lines)
open_endif e is lines true l h = record {
  closes = λ b cs. rw (endif_endings is lines l e b cs) (h.closes End (closing End e b ∷ cs));
}
open_endif e is lines false l h = record {
  closes = λ b cs. rw (alone_endings is lines l e b cs) (h.closes End (closing End e b ∷ cs));
}

pub endif_draft : (e : ℕ) (ifs : List OpenIf) (lines : List CodeLine) (i : OpenIf) → Some i ≡ first_of ifs →
    IsDraft ifs lines → IsDraft (others_of ifs) (lines_after_endif i e lines)
endif_draft e [] lines i f h = cc
endif_draft e (j ∷ is) lines i f h = grind (arith, open_endif e is lines j.has_else j.line h)

-- the same lines and open IFs, in other words
pub draft_at : (lines after : List CodeLine) (ifs is : List OpenIf) → lines ≡ after → ifs ≡ is → IsDraft is after →
    IsDraft ifs lines
draft_at lines after ifs is e f h = grind arith

pub empty_draft : (lines : List CodeLine) (ifs : List OpenIf) → lines ≡ [] → ifs ≡ [] → IsDraft ifs lines
empty_draft lines ifs e f = grind (arith, tree_of-body_lines)

-- a draft without open IFs is a body
pub whole_draft : (ifs : List OpenIf) (lines : List CodeLine) → is_open ifs ≡ false → IsDraft ifs lines →
    AreBodyLines lines
whole_draft ifs lines o h = grind (arith, append-nil, h.closes End [])

-- the lines of a function: those of a body, and a RET after them
pub whole_function : (name : List ℕ) (line ret : ℕ) (xs lines : List CodeLine) →
    lines ≡ xs ++ instruction_line Return ret ∷ [] → AreBodyLines xs → AreLines name line lines
whole_function name line ret xs lines all body = grind (arith, AreLines-then name line xs ret body)
