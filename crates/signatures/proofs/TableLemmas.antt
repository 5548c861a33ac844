-- Signatures as the entries of a map.
use Rattle.std.proofs.Common.{◌≡◌, ℕ, false, refl, arith, Bool, Ok, List, [], ◌∷◌, ◌++◌, map, Some, is_some}
use Rattle.std.proofs.lemmas.Option.{slice_get-map}
use Rattle.std.specs.Prelude.{Vec, slice_get}
use Rattle.std.specs.Str.{bytes_eq}
use Rattle.std.specs.List.{IsDistinct, AllByRecursion}
use Rattle.std.specs.Map.{lookup, keys_of}
use Rattle.indexmap.specs.IndexMap.{insert_entry}
use Rattle.signatures.specs.Reading.{add, is_too_large}
use Rattle.signatures.specs.Signatures.{FunctionType, Signature, signature, kinds_of, NamesDiffer}
use Rattle.signatures.specs.Table.{NamedType, signatures_in}

module _ {A : Type 0} where
  -- what the map has for a name
  pub kinds_in : (es : List (NamedType A)) (name : List ℕ)
      → kinds_of (signatures_in es) name ≡ lookup (λ k. bytes_eq name k.items) es
  kinds_in [] name = refl
  kinds_in (e ∷ es) name = rw (kinds_in es name)

  -- the signature at a place
  pub signature_at : (es : List (NamedType A)) (place : ℕ) (key : Vec ℕ A) (kinds : FunctionType)
      → slice_get es place ≡ Some (key, kinds) → slice_get (signatures_in es) place ≡ Some (signature key.items kinds)
  signature_at es place key kinds h = grind (arith, slice_get-map)

  other_names : (x : List ℕ) (es : List (NamedType A)) → AllByRecursion (λ k. bytes_eq x k.items ≡ false) (keys_of es)
      → AllByRecursion (λ y. bytes_eq x y ≡ false) (map (λ s. s.name) (signatures_in es))
  other_names x [] h = h
  other_names x (e ∷ es) h = (h.0, other_names x es h.1)

  -- the keys of a map differ
  pub names_differ : (es : List (NamedType A)) → IsDistinct (λ a b. bytes_eq a.items b.items) (keys_of es)
      → NamesDiffer (signatures_in es)
  unfolding IsDistinct
  names_differ [] h = h
  names_differ (e ∷ es) h = (other_names e.0.items es h.0, names_differ es h.1)

  -- a new key goes last
  pub inserted : (es : List (NamedType A)) (key : Vec ℕ A) (kinds : FunctionType)
      → is_some (kinds_of (signatures_in es) key.items) ≡ false
      → signatures_in (insert_entry (λ a b. bytes_eq a.items b.items) es key kinds)
      ≡ signatures_in es ++ signature key.items kinds ∷ []
  inserted [] key kinds h = refl
  inserted (e ∷ es) key kinds h = grind (arith, inserted es key kinds)

  -- a signature more
  pub added : (known : List Signature) (es new : List (NamedType A)) (key : Vec ℕ A) (kinds : FunctionType)
      (name : List ℕ) (found : Bool) → signatures_in es ≡ known → key.items ≡ name
      → is_too_large known (signature name kinds) ≡ false → found ≡ is_some (lookup (λ k. bytes_eq name k.items) es)
      → found ≡ false → new ≡ insert_entry (λ a b. bytes_eq a.items b.items) es key kinds
      → add known (signature name kinds) ≡ Ok (signatures_in new)
  unfolding add
  added known es new key kinds name found v k small f absent e = grind (arith, inserted, kinds_in)
