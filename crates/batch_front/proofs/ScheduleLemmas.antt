-- The items of the pieces of a text.
use Rattle.std.proofs.Common.{◌≡◌, ℕ, zero, suc, ◌<◌, ◌≤◌, get_or, Bool, if◌then◌else◌}
use Rattle.std.proofs.Common.{List, [], ◌∷◌, ◌++◌, length, Option, Some, None, ap, ◌∙◌, arith}
use Rattle.vcode_base.specs.declared.limits.TheConstants.{MOST_SCHEDULE_ITEMS}
use Rattle.batch_front.specs.declared.schedule.Item.{Item}
use Rattle.batch_front.specs.Schedules.{item_before, item_of, items_of, schedule_in}

more_before : (o : Option Item) (p q : Option (List Item)) (items : List Item) (last : Item)
    → item_before o p ≡ Some items
    → ((others : List Item) → p ≡ Some others → q ≡ Some (others ++ last ∷ []))
    → item_before o q ≡ Some (items ++ last ∷ [])
more_before o p q items last e more = grind arith

-- one piece more
pub items_with : (pieces : List (List ℕ)) (piece : List ℕ) (items : List Item) (item : Item)
    → items_of pieces ≡ Some items → item_of piece ≡ Some item
    → items_of (pieces ++ piece ∷ []) ≡ Some (items ++ item ∷ [])
items_with [] piece items item e last = grind arith
items_with (p ∷ ps) piece items item e last =
    more_before (item_of p) (items_of ps) (items_of (ps ++ piece ∷ [])) items item e
    (λ others f. items_with ps piece others item f last)

before_none : (o : Option Item) → item_before o None ≡ None
before_none o = grind arith

-- a piece that is no item
pub no_items : (pieces : List (List ℕ)) (place : ℕ) (piece : List ℕ) → place < length pieces
    → piece ≡ get_or pieces place piece → item_of piece ≡ None → items_of pieces ≡ None
no_items [] place piece l e none = absurd (omega arith)
no_items (p ∷ ps) zero piece l e none = grind arith
no_items (p ∷ ps) (suc place) piece l e none =
    ap (item_before (item_of p)) (no_items ps place piece (omega arith) e none) ∙ before_none (item_of p)

neither : (b : Bool) (o : Option (List Item)) → o ≡ None → (if b then o else None) ≡ None
neither b o e = grind arith

pub no_schedule : (pieces : List (List ℕ)) → items_of pieces ≡ None → schedule_in pieces ≡ None
no_schedule pieces e = grind arith

pub too_many : (pieces : List (List ℕ)) → MOST_SCHEDULE_ITEMS < length pieces → schedule_in pieces ≡ None
too_many pieces l = grind arith

pub is_schedule : (pieces : List (List ℕ)) (items : List Item) → length pieces ≤ MOST_SCHEDULE_ITEMS
    → items_of pieces ≡ Some items → schedule_in pieces ≡ Some items
is_schedule pieces items l e = grind arith
