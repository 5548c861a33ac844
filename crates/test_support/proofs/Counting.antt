-- The calls of `Counts` by which a heap counts: what each is handed, and what a caller has of it. Assumes `Logic`.
use Rattle.std.proofs.Common.{◌≡◌, ℕ, ◌<◌, ◌^◌, List, [], ◌∷◌, refl, ap, w64}
use mathlib.Core.Bool.{Bool}
use seplogic.Ra.Ura.{Ura}
use mir.Val.{Val, vunit, vbool, vint, vptr}
use base.Logic.{SProp, ent, ex, sep, guard, id⊢}
use base.Fml.{Lft, Share, ftrue, fsep, flft}
use prog.Memory.{Memory}
use prog.Routine.{Routine}
use types.Logic.{Logic, sem}
use contract.Monad.{Fun}
use types.Kit.{‵, ◌⊛◌, some, later, ◌$◌, ◌∵◌, !, qed, move, keep, use1, split, join, pick, fjoin, feq_i, feq_l, flt_i}
use types.Kit.{check, show, await, updating, now as at_once, done}
use denote.Memory.{hidden_shr}
use denote.Builtin.{bool, unit}
use denote.Exit.{yes}
use denote.RattleType.{RattleType}
use denote.Ref.{Bor, shr_vals}
use denote.Signature.{plain}
use denote.Steps.{nothing, only}
use denote.Triple.Statement.{Contract}
use denote.Triple.Spec.{triple_of}
use denote.Triple.Walked.{Stay, stay_dropped}
use Rattle.test_support.specs.contracts.counts.Counts as CO
use Rattle.test_support.specs.contracts.counts.Counts.admits as AD
use Rattle.test_support.specs.contracts.counts.Counts.frees as FR
use Rattle.test_support.specs.contracts.counts.Counts.shrinks as SH

-- the values of a word that is passed
abbrev pub word : ℕ → List Val
word n = vint w64 n ∷ []

-- nothing is left of a parameter of this type
abbrev pub dropped : {n : ℕ} (V : RattleType) → Stay (plain {n = n} (λ _. V)) yes
dropped V = stay_dropped (plain (λ _. V)) yes

abbrev lent : (CO.the_row).Denot → ℕ × ℕ → Bor (CO.the_row).Denot
lent a c = record { ref_ptr = c; now = a }

module _ {M : Type 1} {𝓤 : Ura M} (𝓛 : Logic 𝓤) (at_mem : Memory → SProp 𝓤) (run : Routine → Fun 𝓤) where
  abbrev pub Admits : Contract 𝓤
  Admits = triple_of 𝓛 AD.signature (AD.spec 𝓛 at_mem run)

  abbrev pub Frees : Contract 𝓤
  Frees = triple_of 𝓛 FR.signature (FR.spec 𝓛 at_mem run)

  abbrev pub Shrinks : Contract 𝓤
  Shrinks = triple_of 𝓛 SH.signature (SH.spec 𝓛 at_mem run)

  module _ (κ : Lft) (q : Share) (a : (CO.the_row).Denot) (c : ℕ × ℕ) where
    abbrev pub at_admits : ℕ → Admits.Ghost
    at_admits n = (((κ, tt), (q, tt), tt, (lent a c, (n, tt)), (shr_vals (lent a c), (word n, tt))), tt)

    abbrev pub at_frees : ℕ → Frees.Ghost
    at_frees = at_admits

    abbrev pub at_shrinks : ℕ → ℕ → ℕ → Shrinks.Ghost
    at_shrinks n old new =
        let words : List Val × (List Val × (List Val × Unit {0})) = (word n, (word old, (word new, tt))) in
        (((κ, tt), (q, tt), tt, (lent a c, (n, (old, (new, tt)))), (shr_vals (lent a c), words)), tt)

module _ {M : Type 1} {𝓤 : Ura M} (𝓛 : Logic 𝓤) (at_mem : Memory → SProp 𝓤) (run : Routine
    → Fun 𝓤) (κ : Lft) (q : Share) (a : (CO.the_row).Denot) (c : ℕ × ℕ) where
  open 𝓛 use {H, A}

  abbrev pub seen : SProp 𝓤
  seen = sem 𝓛 (hidden_shr CO.the_row κ a c.0 c.1)

  pub Admits-goes : (n : ℕ) → n < 2 ^ 64 → ent 𝓤 (sep 𝓤 seen (A.lft κ q))
      ((Admits 𝓛 at_mem run).pre (at_admits 𝓛 at_mem run κ q a c n))
  Admits-goes n fn =
      qed 𝓛 (‵ (hidden_shr CO.the_row κ a c.0 c.1) ∷ ‵ (flft κ q) ∷ []) ∵
      nothing ! $ flt_i ! n (2 ^ 64) fn $ feq_i ! (List Val) (word n) (word n) refl $ fjoin ! $ fjoin ! $
      move ! (1 ∷ []) $ feq_i ! (List Val) (vptr c.0 c.1 ∷ []) (vptr c.0 c.1 ∷ []) refl $ fjoin ! $ fjoin ! $
      nothing ! $ move ! (2 ∷ []) $ join ! $ join ! $ nothing ! $ move ! (1 ∷ []) $ done !

  pub Frees-goes : (n : ℕ) → n < 2 ^ 64 → ent 𝓤 (sep 𝓤 seen (A.lft κ q))
      ((Frees 𝓛 at_mem run).pre (at_frees 𝓛 at_mem run κ q a c n))
  Frees-goes = Admits-goes

  pub Shrinks-goes : (n old new : ℕ) → n < 2 ^ 64 → old < 2 ^ 64 → new < 2 ^ 64
      → ent 𝓤 (sep 𝓤 seen (A.lft κ q)) ((Shrinks 𝓛 at_mem run).pre (at_shrinks 𝓛 at_mem run κ q a c n old new))
  Shrinks-goes n old new fn fo fw =
      qed 𝓛 (‵ (hidden_shr CO.the_row κ a c.0 c.1) ∷ ‵ (flft κ q) ∷ []) ∵
      nothing ! $ flt_i ! new (2 ^ 64) fw $ feq_i ! (List Val) (word new) (word new) refl $ fjoin ! $ fjoin ! $
      flt_i ! old (2 ^ 64) fo $ feq_i ! (List Val) (word old) (word old) refl $ fjoin ! $ fjoin ! $
      flt_i ! n (2 ^ 64) fn $ feq_i ! (List Val) (word n) (word n) refl $ fjoin ! $ fjoin ! $
      move ! (1 ∷ []) $ feq_i ! (List Val) (vptr c.0 c.1 ∷ []) (vptr c.0 c.1 ∷ []) refl $ fjoin ! $ fjoin ! $
      nothing ! $ move ! (2 ∷ []) $ join ! $ join ! $ nothing ! $ move ! (1 ∷ []) $ done !

  pub Admits-gives : (n : ℕ) (v : Val) → ent 𝓤 ((Admits 𝓛 at_mem run).post (at_admits 𝓛 at_mem run κ q a c n) v)
      (H.⇛ (ex 𝓤 (λ (r : Bool). guard 𝓤 (v ≡ vbool r) (A.lft κ q))))
  Admits-gives n v =
      qed 𝓛 (types.Kit.raw ((Admits 𝓛 at_mem run).post (at_admits 𝓛 at_mem run κ q a c n) v) ∷ []) ∵ updating ! $
      use1 𝓛 (later (some (λ (r : Bool). ((‵ (flft κ q) ⊛ ‵ ftrue) ⊛ ‵ (bool.own_val r (v ∷ []))) ⊛ some (λ
      (ws : Unit {0} × (Unit {0} × Unit {0})). ‵ (fsep ftrue (fsep ftrue ftrue)) ⊛ ‵ ftrue))))
      (id⊢ 𝓤 _) $ await ! tt $ pick ! (λ r.
      split ! $ split ! $ move ! (1 ∷ []) $ feq_l ! (λ e. split ! $ at_once ! $ show ! (λ (r : Bool). guard 𝓤
      (v ≡ vbool r) (A.lft κ q)) r $ check ! (ap only e) $ keep ! (0 ∷ []) $ done !))

  pub Frees-gives : (n : ℕ) (v : Val) → ent 𝓤 ((Frees 𝓛 at_mem run).post (at_frees 𝓛 at_mem run κ q a c n) v)
      (H.⇛ (guard 𝓤 (v ≡ vunit) (A.lft κ q)))
  Frees-gives n v =
      qed 𝓛 (types.Kit.raw ((Frees 𝓛 at_mem run).post (at_frees 𝓛 at_mem run κ q a c n) v) ∷ []) ∵ updating ! $
      use1 𝓛 (later (some (λ (r : Unit {0}). ((‵ (flft κ q) ⊛ ‵ ftrue) ⊛ ‵ (unit.own_val r (v ∷ []))) ⊛ some (λ
      (ws : Unit {0} × (Unit {0} × Unit {0})). ‵ (fsep ftrue (fsep ftrue ftrue)) ⊛ ‵ ftrue))))
      (id⊢ 𝓤 _) $ await ! tt $ pick ! (λ r.
      split ! $ split ! $ move ! (1 ∷ []) $ feq_l ! (λ e. split ! $ at_once ! $ check ! (ap only e) $ keep !
      (0 ∷ []) $ done !))

  pub Shrinks-gives : (n old new : ℕ) (v : Val) → ent 𝓤 ((Shrinks 𝓛 at_mem run).post
      (at_shrinks 𝓛 at_mem run κ q a c n old new) v) (H.⇛ (guard 𝓤 (v ≡ vunit) (A.lft κ q)))
  Shrinks-gives n old new v =
      qed 𝓛 (types.Kit.raw ((Shrinks 𝓛 at_mem run).post (at_shrinks 𝓛 at_mem run κ q a c n old new) v) ∷ []) ∵ updating
      ! $
      use1 𝓛 (later (some (λ (r : Unit {0}). ((‵ (flft κ q) ⊛ ‵ ftrue) ⊛ ‵ (unit.own_val r (v ∷ []))) ⊛ some (λ
      (ws : Unit {0} × (Unit {0} × (Unit {0} × (Unit {0} × Unit {0})))). ‵ (fsep ftrue (fsep ftrue (fsep ftrue
      (fsep ftrue ftrue)))) ⊛ ‵ ftrue)))) (id⊢ 𝓤 _) $ await ! tt $ pick ! (λ r.
      split ! $ split ! $ move ! (1 ∷ []) $ feq_l ! (λ e. split ! $ at_once ! $ check ! (ap only e) $ keep !
      (0 ∷ []) $ done !))
