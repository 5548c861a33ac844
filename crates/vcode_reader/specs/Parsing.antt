-- The table of refusals: what is open after the words so far, and what one word more does to it.
use Rattle.std.specs.Prelude.{ℕ, ℤ, Bool, true, false, not, ◌||◌, ◌==◌, nat_lt, List, [], ◌∷◌, ◌++◌, length, Option}
use Rattle.std.specs.Prelude.{Some}
use Rattle.std.specs.Prelude.{None, is_some, Result, Ok, Err, if◌then◌else◌, codes}
use Rattle.std.specs.Str.{bytes_eq}
use Rattle.vcode_base.specs.Bytes.{is_visible}
use Rattle.vcode_base.specs.declared.kind.Scalar.{Scalar}
use Rattle.vcode_base.specs.declared.kind.Scalar.TheVariants as scalar
use Rattle.vcode_base.specs.declared.limits.TheConstants.{LONGEST_NAME, MOST_FUNCTIONS, MOST_OPEN_IFS, MOST_ELEMENTS}
use Rattle.vcode_base.specs.declared.limits.TheConstants.{MOST_MOVED}
use Rattle.vcode_reader.specs.declared.fault.CodeFault.{CodeFault}
use Rattle.vcode_reader.specs.declared.fault.CodeFault.TheVariants.{BadWord, BadNumber, Misplaced, FunctionTwice}
use Rattle.vcode_reader.specs.declared.fault.CodeFault.TheVariants.{TooLarge}
use Rattle.vcode_reader.specs.declared.head.Head.{Head}
use Rattle.vcode_reader.specs.declared.head.Head.TheVariants as head
use Rattle.vcode_reader.specs.declared.keyword.Entries.{Entries}
use Rattle.vcode_reader.specs.declared.keyword.Entries.TheVariants.{Lower, Upper}
use Rattle.vcode_reader.specs.declared.keyword.Keyword.{Keyword}
use Rattle.vcode_reader.specs.declared.keyword.WordSlot.{WordSlot}
use Rattle.vcode_reader.specs.declared.keyword.WordSlot.TheVariants as slot
use Rattle.vcode_reader.specs.declared.place.Place.{Place}
use Rattle.vcode_reader.specs.declared.place.Place.TheVariants.{Outside, Name, Inside, InsideOrInt, Words, Elements}
use Rattle.vcode_reader.specs.Decode.{tree_of}
use Rattle.vcode_reader.specs.Drafts.{DraftState, no_lines, with_item, with_if, with_else, with_endif, takes_else}
use Rattle.vcode_reader.specs.Drafts.{is_open}
use Rattle.vcode_reader.specs.Heads.{head_of, slots_of}
use Rattle.vcode_reader.specs.Keywords.{ItemParts, no_parts, takes_int, instruction_of}
use Rattle.vcode_reader.specs.Numbers.{natural_of, value_of}
use Rattle.vcode_reader.specs.Refusals.{Fault}
use Rattle.vcode_reader.specs.Trees.{Function}

-- whole functions, then what is open: the name and the line of a function with its lines and its open IFs so far, and
-- of an instruction what its next words must be and what its words so far gave
pub record Parse : Type 0 where
  pub functions : List Function
  pub place : Place
  pub name : List ℕ
  pub line : ℕ
  pub draft : DraftState
  pub slots : List WordSlot
  pub parts : ItemParts
  pub fault : Option Fault

abbrev pub start : Parse
start =
    record {
      functions = [];
      place = Outside;
      name = [];
      line = 0;
      draft = no_lines;
      slots = [];
      parts = no_parts;
      fault = None;
    }

abbrev pub with_fault : CodeFault → ℕ → Parse → Parse
with_fault r l p = record p { fault = Some (r, l) }

-- a byte that is part of no word
abbrev pub is_bad_byte : ℕ → Bool
is_bad_byte b = not (is_visible b) || b == 123 || b == 125

abbrev pub is_bad : List ℕ → Bool
is_bad [] = false
is_bad (b ∷ []) = is_bad_byte b
is_bad (b ∷ c ∷ t) = false

abbrev pub is_parenthesis : List ℕ → Bool
is_parenthesis t = bytes_eq t (codes "(") || bytes_eq t (codes ")")

-- a word that names no function
abbrev pub is_no_name : List ℕ → Bool
is_no_name t = is_parenthesis t || is_bad t

-- ---- what one word gives to an instruction, or why it is refused

-- what is wrong with a word that isn't the required number: a byte that is part of no word is no word at all
abbrev pub no_number : List ℕ → CodeFault
no_number t = if is_bad t then BadWord else BadNumber

-- a word that is no value of the kind
abbrev pub no_value : Scalar → List ℕ → CodeFault
no_value scalar.Int t = no_number t
no_value scalar.Bool t = BadWord

abbrev pub int_of : List ℕ → Option Scalar
int_of t = if bytes_eq t (codes "INT") then Some scalar.Int else None

abbrev pub kind_of : List ℕ → Option Scalar
kind_of t =
    if bytes_eq t (codes "INT") then Some scalar.Int else if bytes_eq t (codes "BOOL") then Some scalar.Bool else None

abbrev pub with_kind : Option Scalar → ItemParts → Result ItemParts CodeFault
with_kind None q = Err BadWord
with_kind (Some k) q = Ok (record q { kind = k })

abbrev pub with_value : Option ℤ → List ℕ → ItemParts → Result ItemParts CodeFault
with_value None t q = Err (no_value q.kind t)
with_value (Some n) t q = Ok (record q { numbers = n ∷ [] })

abbrev pub count_in : Option ℕ → List ℕ → Result ℕ CodeFault
count_in None t = Err (no_number t)
count_in (Some n) t = if nat_lt MOST_MOVED n then Err TooLarge else Ok n

abbrev pub counted_parts : Entries → ℕ → ItemParts → ItemParts
counted_parts Lower n q = record q { lower = n }
counted_parts Upper n q = record q { upper = n }

abbrev pub with_count : Entries → Result ℕ CodeFault → ItemParts → Result ItemParts CodeFault
with_count entries (Ok n) q = Ok (counted_parts entries n q)
with_count entries (Err r) q = Err r

abbrev pub with_callee : List ℕ → ItemParts → Result ItemParts CodeFault
with_callee t q =
    if is_no_name t then Err BadWord else if nat_lt LONGEST_NAME (length t) then Err TooLarge else Ok
    (record q { callee = t })

abbrev pub word_in : WordSlot → List ℕ → ItemParts → Result ItemParts CodeFault
word_in slot.Int t q = with_kind (int_of t) q
word_in slot.Kind t q = with_kind (kind_of t) q
word_in slot.Values t q = with_value (value_of q.kind t) t q
word_in (slot.Count entries) t q = with_count entries (count_in (natural_of t) t) q
word_in slot.Callee t q = with_callee t q

-- ---- the words of an instruction

-- the place of an item; after some instructions also of a word INT
abbrev pub item_place : Bool → Place
item_place true = InsideOrInt
item_place false = Inside

-- the next words of the instruction that began at this line must be these; if none is left, it is whole
abbrev pub after_slot : Keyword → ℕ → List WordSlot → Parse → Parse
after_slot k begun [] p =
    record p {
      place = item_place (takes_int k);
      draft = with_item (instruction_of k p.parts) begun p.draft;
      slots = [];
      parts = no_parts;
    }
after_slot k begun (s ∷ slots) p = record p { place = Words k s begun; slots = slots }

-- the word gave this
abbrev pub after_part : Result ItemParts CodeFault → Keyword → ℕ → ℕ → Parse → Parse
after_part (Ok parts) k begun l p = after_slot k begun p.slots (record p { parts = parts })
after_part (Err r) k begun l p = with_fault r l p

abbrev pub begins_list : WordSlot → List ℕ → Bool
begins_list slot.Values t = bytes_eq t (codes "(")
begins_list _ t = false

abbrev pub in_slot : WordSlot → Keyword → ℕ → List ℕ → ℕ → Parse → Parse
in_slot s k begun t l p =
    if begins_list s t then record p {
      place = Elements k begun l;
      parts = record p.parts { numbers = [] };
    } else after_part (word_in s t p.parts) k begun l p

abbrev pub one_element : Option ℤ → List ℕ → ℕ → Parse → Parse
one_element None t l p = with_fault (no_value p.parts.kind t) l p
one_element (Some n) t l p =
    if nat_lt
    (length p.parts.numbers)
    MOST_ELEMENTS then record p {
      parts =
          record p.parts { numbers = p.parts.numbers ++ n ∷ [] };
    } else with_fault TooLarge l p

abbrev pub in_list : Keyword → ℕ → List ℕ → ℕ → Parse → Parse
in_list k begun t l p =
    if bytes_eq t (codes ")") then after_slot k begun p.slots p else one_element (value_of p.parts.kind t) t l p

-- ---- the words between

abbrev pub outside : Head → ℕ → Parse → Parse
outside head.Func l p =
    if nat_lt
    (length p.functions) MOST_FUNCTIONS then record p { place = Name; line = l } else with_fault TooLarge l p
outside head.Other l p = with_fault BadWord l p
outside _ l p = with_fault Misplaced l p

abbrev pub has_name : List ℕ → List Function → Bool
has_name t [] = false
has_name t (f ∷ fs) = bytes_eq t f.name || has_name t fs

abbrev pub after_name : List ℕ → ℕ → Parse → Parse
after_name t l p =
    if is_no_name t then with_fault BadWord l p
    else if nat_lt LONGEST_NAME (length t) then with_fault TooLarge l p
    else if has_name t p.functions then with_fault FunctionTwice l p
    else record p { place = Inside; name = t }

abbrev pub after_return : ℕ → Parse → Parse
after_return l p =
    record p {
      functions = p.functions ++ record { name = p.name; line = p.line; body = tree_of p.draft.lines; ret = l } ∷ [];
      place = Outside;
      name = [];
      line = 0;
      draft = no_lines;
    }

abbrev pub inside : Head → List WordSlot → ℕ → Parse → Parse
inside head.Return slots l p = if is_open p.draft.ifs then with_fault Misplaced l p else after_return l p
inside head.If slots l p =
    if nat_lt
    (length p.draft.ifs)
    MOST_OPEN_IFS then record p { place = Inside; draft = with_if l p.draft } else with_fault TooLarge l p
inside head.Else slots l p =
    if takes_else p.draft.ifs then record p {
      place = Inside;
      draft = with_else p.draft;
    } else with_fault Misplaced l p
inside head.Endif slots l p =
    if is_open p.draft.ifs then record p {
      place = Inside;
      draft = with_endif l p.draft;
    } else with_fault Misplaced l p
inside (head.Start k) slots l p = after_slot k l slots p
inside head.Other slots l p = with_fault BadWord l p
inside head.Func slots l p = with_fault Misplaced l p

-- ---- a word

abbrev pub at_place : Place → List ℕ → ℕ → Parse → Parse
at_place Outside t l p = outside (head_of t) l p
at_place Name t l p = after_name t l p
at_place Inside t l p = inside (head_of t) (slots_of t) l p
at_place InsideOrInt t l p =
    if bytes_eq t (codes "INT") then record p { place = Inside } else inside (head_of t) (slots_of t) l p
at_place (Words k s begun) t l p = in_slot s k begun t l p
at_place (Elements k begun opened) t l p = in_list k begun t l p

-- one word more: after a fault none counts
unfoldable pub take : List ℕ → ℕ → Parse → Parse
take t l p = if is_some p.fault then p else at_place p.place t l p
