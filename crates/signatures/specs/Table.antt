-- Signatures as the entries of a map.
use Rattle.std.specs.Prelude.{ℕ, List, map, Vec}
use Rattle.signatures.specs.Signatures.{FunctionType, Signature, signature}

-- a name, with the kinds that its function takes and gives
abbrev pub NamedType : Type 0 → Type 0
NamedType A = Vec ℕ A × FunctionType

-- the signatures of a map from names to kinds, in its order
abbrev pub signatures_in : {A : Type 0} → List (NamedType A) → List Signature
signatures_in entries = map (λ e. signature e.0.items e.1) entries
