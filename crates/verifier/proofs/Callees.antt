-- The callee of each line of a function.
use Rattle.std.proofs.Common.{◌≡◌, ◌∙◌, ℕ, List, Option, Some, ap}
use Rattle.std.specs.List.{slice_get}
use Rattle.std.specs.Prelude.{map, option_map}
use Rattle.std.proofs.lemmas.Option.{slice_get-map}
use Rattle.vcode_reader.specs.Callees.{callee_of, callees_of, callee_in, callee_at}
use Rattle.vcode_reader.specs.Targets.{target_in}
use Rattle.vcode_reader.specs.Trees.{CodeLine, Function, lines_of}

-- the callee of a line of a function
pub callee_is : (fs : List Function) (function place : ℕ) (f : Function) (x : CodeLine) → slice_get fs function ≡ Some f
    → slice_get (lines_of f) place ≡ Some x → callee_at fs function place ≡ callee_of fs x.item
unfolding callees_of
callee_is fs function place f x hf hx =
    let callee : CodeLine → Option ℕ = λ y. callee_of fs y.item in
    let entry : Function → List (Option ℕ) = λ g. map callee (lines_of g) in
    ap (λ z. callee_in z place) (slice_get-map entry fs function ∙ ap (option_map entry) hf)
    ∙ ap target_in (slice_get-map callee (lines_of f) place ∙ ap (option_map callee) hx)
