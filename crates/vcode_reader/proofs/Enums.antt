-- When the derived `==` of an enum's values is true: if they are one.
use Rattle.std.proofs.Common.{arith, ◌≡◌, ◌⊎◌, inl, inr, Bool, true, false, ◌&&◌, List, [], ◌∷◌, ap, sym}
use Rattle.std.proofs.lemmas.Bool.Decides.{nat_tests, Decides-and, Decides-like, Decides-eqb}
use Rattle.std.specs.Bool.{Decides}
use Rattle.std.proofs.lemmas.Bool.{false≢true}
use denote.Enum.Bare.{Bare, sameb, same_true, true_same}
use denote.Enum.Compared.{Each, by}
use denote.Enum.Declared.{Choice, Declared, left_or}
use denote.Struct.Field.{Field}
use denote.Struct.Values.{Values}
use Rattle.vcode_base.specs.contracts.kind.Scalar as scalar
use Rattle.vcode_base.specs.contracts.op.Arith as arith
use Rattle.vcode_base.specs.contracts.op.Comparison as comparison
use Rattle.vcode_base.specs.contracts.op.Logic as logic
use Rattle.vcode_base.specs.contracts.op.Fold as folds
use Rattle.vcode_base.specs.contracts.op.Elementwise as elementwise
use Rattle.vcode_base.specs.contracts.op.Segmented as segmented
use Rattle.vcode_base.specs.contracts.op.StackMove as motion
use Rattle.vcode_reader.specs.contracts.code_lines.PooledItem as pooled
use Rattle.vcode_reader.specs.Pools.{PooledItem}
use Rattle.vcode_reader.proofs.Equal.{same_span, same_spans, same_targets}
use Rattle.std.specs.Option.{option_eq}
use Rattle.std.specs.Prelude.{nat_eq}

-- one variant's test or lemma, and those of the variants after it
infixr 5 ◌also◌
abbrev pub ◌also◌ : {A B : Type 0} → A → B → A × B
a also rest = (a, rest)

-- each variant's test of its fields is true if they are equal
abbrev pub AreExact : (Fss : List (List Field)) → Each Bool Fss → Type 0
AreExact [] each = Unit {0}
AreExact (Fs ∷ Fss) each = ((x y : Values Fs) → Decides (each.0 x y) (x ≡ y)) × AreExact Fss each.1

other : {P : Type 0} → (P → ⊥) → Decides false P
other f = (λ h. absurd (false≢true h), λ p. absurd (f p))

left_not_right : {A B : Type 0} (x : A) (y : B) → let s : A ⊎ B = inl x in s ≡ inr y → ⊥
left_not_right x y h = cc

decides_by : (Fss : List (List Field)) (each : Each Bool Fss) → AreExact Fss each → (c d : Choice Fss) →
    Decides (by false false Fss each c d) (c ≡ d)
decides_by [] each e c d = absurd c
decides_by (Fs ∷ Fss) each e (inl x) (inl y) = Decides-like _ (λ h. ap inl h) (λ h. ap (left_or x) h) (e.0 x y)
decides_by (Fs ∷ Fss) each e (inl x) (inr d) = other (left_not_right x d)
decides_by (Fs ∷ Fss) each e (inr c) (inl y) = other (λ h. left_not_right y c (sym h))
decides_by (Fs ∷ Fss) each e (inr c) (inr d) = grind (arith, nat_tests, Decides-like, decides_by Fss each.1 e.1 c d)

-- an enum of which no variant has a field
pub bare : (D : Declared) → Bare D.parts → (a b : D.D) → Decides (sameb D a b) (a ≡ b)
bare D b x y = (same_true D b x y, true_same D x y)

-- ---- the enums of instructions

abbrev pub folds_each : Each Bool folds.the_parts
folds_each =
    (λ _ _. true) also (λ _ _. true) also (λ _ _. true) also (λ _ _. true) also
    (λ x y. sameb logic.the_type x.0 y.0 && sameb scalar.the_type x.1.0 y.1.0) also tt

abbrev pub same_fold : (folds.the_type).D → (folds.the_type).D → Bool
same_fold a b = by false false folds.the_parts folds_each (folds.as_values a) (folds.as_values b)

abbrev pub elementwise_each : Each Bool elementwise.the_parts
elementwise_each =
    (λ x y. sameb arith.the_type x.0 y.0) also (λ x y. sameb comparison.the_type x.0 y.0) also
    (λ x y. sameb logic.the_type x.0 y.0 && sameb scalar.the_type x.1.0 y.1.0) also
    (λ x y. sameb scalar.the_type x.0 y.0) also (λ x y. sameb scalar.the_type x.0 y.0) also (λ _ _. true) also
    (λ _ _. true) also tt

abbrev pub same_elementwise : (elementwise.the_type).D → (elementwise.the_type).D → Bool
same_elementwise a b =
    by false false elementwise.the_parts elementwise_each (elementwise.as_values a) (elementwise.as_values b)

abbrev pub segmented_each : Each Bool segmented.the_parts
segmented_each =
    (λ x y. same_fold x.0 y.0) also (λ x y. same_fold x.0 y.0) also (λ x y. sameb scalar.the_type x.0 y.0) also
    (λ _ _. true) also (λ x y. sameb scalar.the_type x.0 y.0) also (λ x y. sameb scalar.the_type x.0 y.0) also
    (λ x y. sameb scalar.the_type x.0 y.0) also (λ x y. sameb scalar.the_type x.0 y.0) also
    (λ x y. sameb scalar.the_type x.0 y.0) also (λ x y. sameb scalar.the_type x.0 y.0) also (λ _ _. true) also
    (λ _ _. true) also tt

abbrev pub same_segmented : (segmented.the_type).D → (segmented.the_type).D → Bool
same_segmented a b = by false false segmented.the_parts segmented_each (segmented.as_values a) (segmented.as_values b)

abbrev pub pooled_each : Each Bool pooled.the_parts
pooled_each =
    (λ x y. sameb scalar.the_type x.0 y.0 && same_span x.1.0 y.1.0) also (λ x y. same_elementwise x.0 y.0) also
    (λ x y. same_segmented x.0 y.0) also (λ _ _. true) also
    (λ x y. sameb motion.the_type x.0 y.0 && (nat_eq x.1.0 y.1.0 && nat_eq x.1.1.0 y.1.1.0)) also
    (λ x y. same_span x.0 y.0) also (λ _ _. true) also (λ x y. option_eq nat_eq x.0 y.0) also
    (λ x y. option_eq nat_eq x.0 y.0) also (λ _ _. true) also tt

pub same_items : (a b : PooledItem) →
    Decides (by false false pooled.the_parts pooled_each (pooled.as_values a) (pooled.as_values b)) (a ≡ b)
same_items =
    grind (arith, nat_tests, Decides-like, decides_by, Decides-and, same_spans, bare, Decides-eqb, same_targets)
