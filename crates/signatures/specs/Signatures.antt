-- Signatures: for each function its name, and the kinds that it takes and gives, from bottom to top.
use Rattle.std.specs.Prelude.{ℕ, List, [], ◌∷◌, Option, Some, None, if◌then◌else◌, map}
use Rattle.std.specs.Str.{bytes_eq}
use Rattle.std.specs.List.{IsDistinct}
use Rattle.vcode_base.specs.declared.kind.Kind.{Kind}

-- the kinds that a function takes, and those that it gives, from the bottom of the stack up
abbrev pub FunctionType : Type 0
FunctionType = List Kind × List Kind

pub record Signature : Type 0 where
  pub name : List ℕ
  pub operands : List Kind
  pub results : List Kind

-- the signature of this name with these kinds
abbrev pub signature : List ℕ → FunctionType → Signature
signature name kinds = record { name = name; operands = kinds.0; results = kinds.1 }

-- the kinds that the function of this name takes and gives, if it has a signature
abbrev pub kinds_of : List Signature → List ℕ → Option FunctionType
kinds_of [] name = None
kinds_of (s ∷ ss) name = if bytes_eq name s.name then Some (s.operands, s.results) else kinds_of ss name

-- no name comes twice
abbrev pub NamesDiffer : List Signature → Type 0
NamesDiffer ss = IsDistinct bytes_eq (map (λ s. s.name) ss)
