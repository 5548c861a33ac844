-- The items of a schedule.
use Rattle.std.specs.Prelude.{ℕ, ◌+◌, ◌-◌, ◌*◌, ◌==◌, nat_le, ◌&&◌, if◌then◌else◌, List, [], ◌∷◌, length}
use Rattle.std.specs.Prelude.{Option, Some, None, option_map}
use Rattle.std.specs.List.{slice_split}
use Rattle.vcode_base.specs.declared.limits.TheConstants.{MOST_JOBS, MOST_SCHEDULE_ITEMS}
use Rattle.batch_front.specs.declared.schedule.Item.{Item}
use Rattle.batch_front.specs.declared.schedule.Item.TheVariants.{Step, Begin, Finish}

-- ---- one item

-- the place in the batch of the job whose turn it is
abbrev pub place_of : Item → ℕ
place_of (Step place) = place
place_of (Begin place) = place
place_of (Finish place) = place

abbrev pub digit_of : ℕ → Option ℕ
digit_of b = if nat_le 48 b && nat_le b 57 then Some (b - 48) else None

-- the value of two digits
abbrev pub two_digits : Option ℕ → Option ℕ → Option ℕ
two_digits (Some tens) (Some ones) = Some (10 * tens + ones)
two_digits (Some tens) None = None
two_digits None ones = None

-- the number, if a job may have it
abbrev pub job_within : Option ℕ → Option ℕ
job_within None = None
job_within (Some n) = if nat_le 1 n && nat_le n MOST_JOBS then Some n else None

-- the job's number that one digit is or two
abbrev pub job_of : List ℕ → Option ℕ
job_of (ones ∷ []) = job_within (digit_of ones)
job_of (tens ∷ ones ∷ []) = job_within (two_digits (digit_of tens) (digit_of ones))
job_of _ = None

-- a job's number, with a `b` before it, an `f` or neither
abbrev pub item_of : List ℕ → Option Item
item_of [] = None
item_of (c ∷ cs) =
    if c == 98 then option_map Begin (job_of cs)
    else if c == 102 then option_map Finish (job_of cs)
    else option_map Step (job_of (c ∷ cs))

-- ---- all of them

abbrev pub item_before : Option Item → Option (List Item) → Option (List Item)
item_before (Some item) (Some items) = Some (item ∷ items)
item_before (Some item) None = None
item_before None items = None

-- the items that some pieces are, each of them one
abbrev pub items_of : List (List ℕ) → Option (List Item)
items_of [] = Some []
items_of (piece ∷ pieces) = item_before (item_of piece) (items_of pieces)

-- not too many pieces
abbrev pub schedule_in : List (List ℕ) → Option (List Item)
schedule_in pieces = if nat_le (length pieces) MOST_SCHEDULE_ITEMS then items_of pieces else None

-- the items between the commas of a text
unfoldable pub schedule_of : List ℕ → Option (List Item)
schedule_of text = schedule_in (slice_split (λ b. b == 44) text)
