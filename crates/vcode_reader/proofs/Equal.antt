-- Programs are equal if their parts are.
use Rattle.std.proofs.Common.{arith, ◌≡◌, ◌∙◌, ℕ, List, Option, Bool, ◌&&◌, refl, ap, sym}
use Rattle.std.proofs.lemmas.Bool.Decides.{nat_tests, Decides-and, Decides-like, Decides-eqb, Decides-int_eq}
use Rattle.std.specs.Bool.{Decides}
use Rattle.std.specs.Cmp.Lexicographic.{pointwise}
use Rattle.std.specs.Option.{option_eq}
use Rattle.std.specs.Ordering.{int_eq}
use Rattle.std.specs.Prelude.{nat_eq}
use Rattle.std.proofs.lemmas.Slice.Eq.{slice_eq-Decides}
use Rattle.vcode_reader.specs.declared.code_lines.Span.{Span}
use Rattle.vcode_reader.specs.Pools.{PooledItem, PooledLine, least_number, linked_lines, shown_lines, all_lists}
use Rattle.vcode_reader.specs.Pools.{all_names}
use Rattle.vcode_reader.specs.Trees.{CodeLine, Function, Program, lines_of}
use Rattle.vcode_reader.specs.Programs.{held_callees}
use Rattle.vcode_reader.specs.Decode.{function_of, function_of-lines_of}
use Rattle.vcode_reader.proofs.Linking.{linked_again}

pub same_targets : (s t : Option ℕ) → Decides (option_eq nat_eq s t) (s ≡ t)
same_targets s t = grind (arith, nat_tests)

abbrev pub same_span : Span → Span → Bool
same_span s t = nat_eq s.start t.start && nat_eq s.len t.len

pub same_spans : (s t : Span) → Decides (same_span s t) (s ≡ t)
same_spans s t = grind (arith, nat_tests)

-- lines are equal if their pooled lines and the pools are
module _ {F : PooledItem → PooledItem → Bool}
    (exact : (i j : PooledItem) → Decides (F i j) (i ≡ j)) where
  same_line : (a b : PooledLine) → Decides (F a.item b.item && nat_eq a.distance b.distance) (a ≡ b)
  same_line a b = grind (arith, nat_tests)

  pub same_lines : (xs ys : List CodeLine) →
      Decides (nat_eq (least_number xs) (least_number ys) &&
      (pointwise (λ a b. F a.item b.item && nat_eq a.distance b.distance) (linked_lines xs) (linked_lines ys) &&
      (pointwise int_eq (all_lists xs) (all_lists ys) && pointwise nat_eq (all_names xs) (all_names ys)))) (xs ≡ ys)
  same_lines xs ys =
      Decides-like _ (λ (n, (e, (f, g))). sym (linked_again xs)
      ∙ ((λ i. shown_lines (n i) (f i) (g i) (e i)) ∙ linked_again ys))
      (λ e. (ap least_number e, (ap linked_lines e, (ap all_lists e, ap all_names e))))
      (Decides-and _ _ (Decides-eqb (least_number xs) (least_number ys))
      (Decides-and _ _ (slice_eq-Decides same_line (linked_lines xs) (linked_lines ys) _ refl)
      (Decides-and _ _ (slice_eq-Decides Decides-int_eq (all_lists xs) (all_lists ys) _ refl)
      (slice_eq-Decides Decides-eqb (all_names xs) (all_names ys) _ refl))))

module _ {L : List CodeLine → List CodeLine → Bool}
    (exact_lines : (xs ys : List CodeLine) → Decides (L xs ys) (xs ≡ ys)) where
  same_functions : (f g : Function) →
      Decides (pointwise nat_eq f.name g.name && (nat_eq f.line g.line && L (lines_of f) (lines_of g))) (f ≡ g)
  same_functions f g =
      Decides-like _ (λ (n, (l, ls)). sym (function_of-lines_of f)
      ∙ ((λ i. function_of (n i) (l i) (ls i)) ∙ function_of-lines_of g))
      (λ e. (λ i. (e i).name, (λ i. (e i).line, ap lines_of e)))
      (Decides-and _ _ (slice_eq-Decides Decides-eqb f.name g.name _ refl)
      (Decides-and _ _ (Decides-eqb f.line g.line) (exact_lines (lines_of f) (lines_of g))))

  pub same_programs : (p q : Program) →
      Decides (nat_eq p.first_line q.first_line &&
      (pointwise
      (λ f g. pointwise nat_eq f.name g.name && (nat_eq f.line g.line && L (lines_of f) (lines_of g))) p.functions
      q.functions && pointwise (pointwise nat_eq)
      (held_callees p.functions) (held_callees q.functions))) (p ≡ q)
  same_programs p q = grind (arith, nat_tests, Decides-like, Decides-and, Decides-eqb, slice_eq-Decides, same_functions)
