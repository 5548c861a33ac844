-- A program as the trees of its functions, and as their lines one after another.
use Rattle.std.specs.Prelude.{ℕ, ℤ, List, [], ◌∷◌, ◌++◌}
use Rattle.std.specs.List.{All}
use Rattle.vcode_base.specs.declared.instr.Instr.{Instr}
use Rattle.vcode_base.specs.declared.instr.Instr.TheVariants.{Const, If, Return}
use Rattle.vcode_base.specs.Kinds.{HasKind, kind_of}
use Rattle.vcode_reader.specs.declared.line.Numbered.{Numbered}
use Rattle.vcode_reader.specs.declared.line.CodeItem.{CodeItem}
use Rattle.vcode_reader.specs.declared.line.CodeItem.TheVariants as code_item

-- an instruction with its list or with the name that it calls
abbrev pub Item : Type 0
Item = Instr (List ℤ) (List ℕ)

-- The items of a body one after another, each with its line. An IF is a choice of two bodies, with the line of its
-- ENDIF; the second body is empty if there is no ELSE.
pub data Body : Type 0 where
  End : Body
  Do : (item : Item) (line : ℕ) (rest : Body) → Body
  Choice : (line : ℕ) (first second : Body) (end : ℕ) (rest : Body) → Body

-- a function: its name, the line of its FUNC, its items before the last, and the line of its last item, which is RET
pub record Function : Type 0 where
  pub name : List ℕ
  pub line : ℕ
  pub body : Body
  pub ret : ℕ

-- a program: its first line, and its functions in the order of the text
pub record Program : Type 0 where
  pub first_line : ℕ
  pub functions : List Function

abbrev pub line_of : {I : Type 0} → I → ℕ → Numbered I
line_of i l = record { item = i; number = l }

-- a line of the code
abbrev pub CodeLine : Type 0
CodeLine = Numbered (CodeItem Item)

-- the line of an instruction
abbrev pub instruction_line : Item → ℕ → CodeLine
instruction_line i l = line_of (code_item.Do i) l

-- the lines of a body: every IF has an ELSE, on the line of the IF
abbrev pub body_lines : Body → List CodeLine
body_lines End = []
body_lines (Do i l b) = instruction_line i l ∷ body_lines b
body_lines (Choice l first second e b) =
    line_of code_item.If l
    ∷ (body_lines first ++ (line_of code_item.Else l ∷ (body_lines second ++
    (line_of code_item.Endif e ∷ body_lines b))))

-- the lines of a function, RET among them
abbrev pub lines_of : Function → List CodeLine
lines_of f = body_lines f.body ++ instruction_line Return f.ret ∷ []

-- an instruction of a body: any but RET, which comes only after the body, and IF, which is a choice of two bodies;
-- the list of a CONST is of its kind
abbrev pub IsBodyInstruction : Item → Type 0
IsBodyInstruction (Const k list) = HasKind (kind_of k) list
IsBodyInstruction Return = ⊥
IsBodyInstruction If = ⊥
IsBodyInstruction _ = Unit {0}

-- the instructions of a body are such, in every part of its IFs
abbrev pub IsProperBody : Body → Type 0
IsProperBody End = Unit {0}
IsProperBody (Do i l b) = IsBodyInstruction i × IsProperBody b
IsProperBody (Choice l first second e b) = IsProperBody first × IsProperBody second × IsProperBody b

-- the bodies of functions are
abbrev pub HaveProperBodies : List Function → Type 0
HaveProperBodies fs = All (λ f. IsProperBody f.body) fs
