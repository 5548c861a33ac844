use Rattle.std.proofs.Common.{◌≡◌, ◌∙◌, ap, sym, ℤ, List, [], length, get_or, Bor, rules, tests}
use Rattle.std.proofs.lemmas.Iterator.{YieldsList-from_slice}
use Rattle.std.proofs.lemmas.Iterator.Search.{any_from_yields_List}
use Rattle.std.proofs.lemmas.List.{get_or-map}
use Rattle.vcode_base.specs.Meaning.{operand, wrong_length}
use Rattle.vcode_base.specs.Operands.{contents}
use Rattle.vector_ops.proofs.Lists.{list_any-map}
use Rattle.vector_ops.proofs.shapes.lengths_differ.Goals as goal

pub returns : goal.returns
returns c =
    let refs = c.args.ops.now in
    let first = length (operand (contents refs) 0) in
    let same : (d : Bor (List ℤ)) → length (get_or refs 0 d).now ≡ first =
    λ d. sym (ap length (get_or-map (λ r. r.now) refs 0 d [] c.requires)) in
    any_from_yields_List (λ r. wrong_length r.now first) _ _ c.any.result c.any.ensures.ran
    (YieldsList-from_slice refs cc) (λ x b q k. search (rules, tests, same))
    ∙ sym (list_any-map (λ x. wrong_length x first) (λ r. r.now) refs)
