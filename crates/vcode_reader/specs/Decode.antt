-- The function whose lines these are: a body's lines read from the end give its tree, and no other.
use Rattle.std.specs.Prelude.{◌≡◌, ℕ, List, [], ◌∷◌, ◌++◌, Option, Some, None, refl}
use Rattle.std.specs.Coded.{Coded, code_by, coded_ℕ, coded×, coded_list}
use Rattle.std.proofs.Common.{ap, sym, ◌∙◌, append_assoc}
use Rattle.vcode_base.specs.declared.instr.Instr.TheVariants.{Return}
use Rattle.vcode_reader.specs.declared.line.CodeItem.{CodeItem}
use Rattle.vcode_reader.specs.declared.line.CodeItem.TheVariants as code_item
use Rattle.vcode_reader.specs.Trees.{Item, Body, End, Do, Choice, CodeLine, Function, Program, line_of}
use Rattle.vcode_reader.specs.Trees.{instruction_line, body_lines, lines_of}

-- what waits for the front of an IF: its second body, or both, with the line of its ENDIF and the body after it
pub data Waits : Type 0 where
  ForElse : (end : ℕ) (rest : Body) → Waits
  ForIf : (second : Body) (end : ℕ) (rest : Body) → Waits

-- the body that a tail of the code begins with, and what waits for the lines before it
pub record Tail : Type 0 where
  pub body : Body
  pub waits : List Waits

abbrev pub before_else : Body → List Waits → Tail
before_else b (ForElse e rest ∷ ws) = record { body = End; waits = ForIf b e rest ∷ ws }
before_else b _ = record { body = b; waits = [] }

abbrev pub before_if : ℕ → Body → List Waits → Tail
before_if l b (ForIf second e rest ∷ ws) = record { body = Choice l b second e rest; waits = ws }
before_if l b _ = record { body = b; waits = [] }

-- one line more in front
abbrev pub before : CodeItem Item → ℕ → Tail → Tail
before (code_item.Do i) l t = record { body = Do i l t.body; waits = t.waits }
before code_item.If l t = before_if l t.body t.waits
before code_item.Else l t = before_else t.body t.waits
before code_item.Endif l t = record { body = End; waits = ForElse l t.body ∷ t.waits }

unfoldable pub tail_of : List CodeLine → Tail
tail_of [] = record { body = End; waits = [] }
tail_of (x ∷ xs) = before x.item x.number (tail_of xs)

-- the tree of a body's lines
unfoldable pub tree_of : List CodeLine → Body
tree_of xs = (tail_of xs).body

-- the lines are those of a body
abbrev pub AreBodyLines : List CodeLine → Type 0
AreBodyLines xs = body_lines (tree_of xs) ≡ xs

-- one body after another
unfoldable pub then_body : Body → Body → Body
then_body End c = c
then_body (Do i l b) c = Do i l (then_body b c)
then_body (Choice l x y e b) c = Choice l x y e (then_body b c)

-- the lines before the last, and the number of the last
abbrev pub in_front : CodeLine → Option (List CodeLine × ℕ) → Option (List CodeLine × ℕ)
in_front x None = Some ([], x.number)
in_front x (Some (front, ret)) = Some (x ∷ front, ret)

unfoldable pub split_last : List CodeLine → Option (List CodeLine × ℕ)
split_last [] = None
split_last (x ∷ xs) = in_front x (split_last xs)

abbrev pub body_in : Option (List CodeLine × ℕ) → Body
body_in None = End
body_in (Some (front, ret)) = tree_of front

abbrev pub ret_in : Option (List CodeLine × ℕ) → ℕ
ret_in None = 0
ret_in (Some (front, ret)) = ret

-- the function of these lines
abbrev pub function_of : List ℕ → ℕ → List CodeLine → Function
function_of name line lines =
    record { name = name; line = line; body = body_in (split_last lines); ret = ret_in (split_last lines) }

-- the lines are those of their function
abbrev pub AreLines : List ℕ → ℕ → List CodeLine → Type 0
AreLines name line lines = lines_of (function_of name line lines) ≡ lines

-- ---- the tree of a body's lines is the body

then_tail : Body → Tail → Tail
then_tail b t = record { body = then_body b t.body; waits = t.waits }

then_end : (b : Body) → then_body b End ≡ b
unfolding then_body
then_end End = refl
then_end (Do i l b) = ap (Do i l) (then_end b)
then_end (Choice l x y e b) = ap (Choice l x y e) (then_end b)

regroup : (x y b rest : List CodeLine) (i m n : CodeLine) →
    (i ∷ (x ++ (m ∷ (y ++ (n ∷ b))))) ++ rest ≡ i ∷ (x ++ (m ∷ (y ++ (n ∷ (b ++ rest)))))
regroup x y b rest i m n = simp append_assoc

choice : ℕ → Body → Body → ℕ → Body → List Waits → Tail
choice l x y e b ws = record { body = Choice l x y e b; waits = ws }

tail_of-body_lines : (b : Body) (xs : List CodeLine) → tail_of (body_lines b ++ xs) ≡ then_tail b (tail_of xs)
unfolding tail_of then_tail then_body choice
tail_of-body_lines End xs = refl
tail_of-body_lines (Do i l b) xs = ap (before (code_item.Do i) l) (tail_of-body_lines b xs)
tail_of-body_lines (Choice l x y e b) xs =
    ap tail_of
    (regroup (body_lines x) (body_lines y) (body_lines b) xs (line_of code_item.If l) (line_of code_item.Else l)
    (line_of code_item.Endif e))
    ∙ (ap (before code_item.If l)
    (tail_of-body_lines x _
    ∙ ap (then_tail x)
    (ap (before code_item.Else l)
    (tail_of-body_lines y _ ∙ ap (then_tail y) (ap (before code_item.Endif e) (tail_of-body_lines b xs)))))
    ∙ (ap (λ z. choice l z (then_body y End) e (then_body b (tail_of xs).body) (tail_of xs).waits) (then_end x)
    ∙ ap (λ z. choice l x z e (then_body b (tail_of xs).body) (tail_of xs).waits) (then_end y)))

add_nil : {A : Type 0} (xs : List A) → xs ++ [] ≡ xs
add_nil [] = refl
add_nil (x ∷ xs) = ap (λ ys. x ∷ ys) (add_nil xs)

pub tree_of-body_lines : (b : Body) → tree_of (body_lines b) ≡ b
unfolding tree_of tail_of then_tail
tree_of-body_lines b = ap tree_of (sym (add_nil (body_lines b)))
    ∙ (ap (λ (t : Tail). t.body) (tail_of-body_lines b []) ∙ then_end b)

-- ---- lines with a RET after them

pub split_last-then : (xs : List CodeLine) (ret : ℕ) →
    split_last (xs ++ instruction_line Return ret ∷ []) ≡ Some (xs, ret)
unfolding split_last
split_last-then [] ret = refl
split_last-then (x ∷ xs) ret = ap (in_front x) (split_last-then xs ret)

abbrev made : List ℕ → ℕ → Option (List CodeLine × ℕ) → Function
made name line o = record { name = name; line = line; body = body_in o; ret = ret_in o }

pub function_of-then : (name : List ℕ) (line : ℕ) (xs : List CodeLine) (ret : ℕ) →
    function_of name line (xs ++ instruction_line Return ret ∷ [])
    ≡ record { name = name; line = line; body = tree_of xs; ret = ret }
function_of-then name line xs ret = ap (made name line) (split_last-then xs ret)

pub function_of-lines_of : (f : Function) → function_of f.name f.line (lines_of f) ≡ f
function_of-lines_of f =
    function_of-then f.name f.line (body_lines f.body) f.ret
    ∙ ap (λ b. let g : Function = record f { body = b } in g) (tree_of-body_lines f.body)

pub AreLines-then : (name : List ℕ) (line : ℕ) (xs : List CodeLine) (ret : ℕ) → AreBodyLines xs →
    AreLines name line (xs ++ instruction_line Return ret ∷ [])
AreLines-then name line xs ret h =
    ap lines_of (function_of-then name line xs ret) ∙ ap (λ ys. ys ++ instruction_line Return ret ∷ []) h

-- ---- what identifies a program

-- a function is identified by its name, its line and its lines
abbrev pub function_code : Coded CodeLine → Coded Function
function_code line =
    code_by (List ℕ × (ℕ × List CodeLine)) (coded× (coded_list coded_ℕ) (coded× coded_ℕ (coded_list line)))
    (λ f. (f.name, (f.line, lines_of f))) (λ p. function_of p.0 p.1.0 p.1.1) function_of-lines_of

abbrev pub program_code : Coded CodeLine → Coded Program
program_code line =
    code_by (ℕ × List Function) (coded× coded_ℕ (coded_list (function_code line)))
    (λ p. (p.first_line, p.functions)) (λ p. record { first_line = p.0; functions = p.1 }) (λ _. refl)
