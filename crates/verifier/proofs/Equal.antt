-- What was verified is equal if its parts are.
use Rattle.std.proofs.Common.{◌≡◌, Bool, ◌&&◌, List, refl, ap}
use Rattle.std.specs.Bool.{Decides}
use Rattle.std.specs.Cmp.Lexicographic.{pointwise}
use Rattle.std.proofs.lemmas.Bool.Decides.{Decides-and, Decides-like}
use Rattle.std.proofs.lemmas.Slice.Eq.{slice_eq-Decides}
use Rattle.vcode_base.specs.declared.kind.Kind.{Kind}
use Rattle.vcode_reader.specs.Trees.{Program}
use Rattle.verifier.specs.Typed.{TypedProgram}

module _ {F : Program → Program → Bool} {G : Kind → Kind → Bool}
    (exact : (p q : Program) → Decides (F p q) (p ≡ q)) (exact_kinds : (a b : Kind) → Decides (G a b) (a ≡ b)) where
  same_kinds : (ks ls : List Kind) → Decides (pointwise G ks ls) (ks ≡ ls)
  same_kinds ks ls = slice_eq-Decides exact_kinds ks ls _ refl

  same_arrow : (a b : List Kind × List Kind) → Decides (pointwise G a.0 b.0 && pointwise G a.1 b.1) (a ≡ b)
  same_arrow a b =
      Decides-like _ (λ (t, g). λ i. (t i, g i))
      (λ e. (ap (λ (p : List Kind × List Kind). p.0) e, ap (λ (p : List Kind × List Kind). p.1) e))
      (Decides-and _ _ (same_kinds a.0 b.0) (same_kinds a.1 b.1))

  pub same_typed : (s t : TypedProgram) → Decides
      (F s.program t.program && (pointwise (λ a b. pointwise G a.0 b.0 && pointwise G a.1 b.1) s.arrows t.arrows
      && pointwise G s.results t.results)) (s ≡ t)
  same_typed s t =
      Decides-like _
      (λ (p, (a, r)). λ i. record { program = p i; arrows = a i; results = r i })
      (λ e. (
        ap (λ (u : TypedProgram). u.program) e,
        (ap (λ (u : TypedProgram). u.arrows) e, ap (λ (u : TypedProgram). u.results) e),
      ))
      (Decides-and _ _ (exact s.program t.program)
      (Decides-and _ _ (slice_eq-Decides same_arrow s.arrows t.arrows _ refl) (same_kinds s.results t.results)))
