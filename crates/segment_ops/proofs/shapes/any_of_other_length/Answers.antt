use Rattle.std.proofs.Common.{◌≡◌, ◌∙◌, refl, ap, ℤ, Bool, not, List, [], ◌∷◌, length, ◌||◌, rules, tests}
use Rattle.std.specs.Bool.{◌==◌}
use Rattle.std.specs.Borrow.{Bor}
use Rattle.std.specs.List.{list_any}
use Rattle.std.proofs.lemmas.Iterator.{YieldsList-from_slice}
use Rattle.std.proofs.lemmas.Iterator.Search.{any_from_yields_List}
use Rattle.vcode_base.specs.Operands.{contents}
use Rattle.segment_ops.proofs.shapes.any_of_other_length.Goals as goal

any_contents : (p : List ℤ → Bool) (refs : List (Bor (List ℤ)))
    → list_any (λ (r : Bor (List ℤ)). p r.now) refs ≡ list_any p (contents refs)
any_contents p [] = refl
any_contents p (r ∷ refs) = ap (λ b. p r.now || b) (any_contents p refs)

pub returns : goal.returns
returns c =
    any_from_yields_List (λ (r : Bor (List ℤ)). not (length r.now == c.args.len)) _ _ c.any.result c.any.ensures.ran
    (YieldsList-from_slice c.args.vectors.now cc) (λ x b q k. search (rules, tests))
    ∙ any_contents (λ x. not (length x == c.args.len)) c.args.vectors.now
