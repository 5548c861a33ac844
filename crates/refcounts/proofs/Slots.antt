-- The slots that the blocks of a memory and the counts make.
use Rattle.std.proofs.Common.{◌≡◌, ℕ, ◌+◌, ◌-◌, ◌<◌, Bool, cond, ltb, List, [], ◌∷◌, ◌++◌, length, get_or, set, map}
use Rattle.std.proofs.Common.{Option, Some, None, refl, sym, ◌∙◌, ap, arith, rules, zero, suc}
use Rattle.std.specs.Prelude.{replicate, is_some, sum_by}
use Rattle.std.proofs.lemmas.Bool.Decides.{nat_tests}
use Rattle.std.proofs.lemmas.List.{get_or-set_other, get_or_past, get_or_default, get_or-replicate, set-get_or}
use Rattle.std.proofs.lemmas.List.{length-set, length-replicate, ext_get_or, take_all}
use Rattle.std.proofs.lemmas.List.Sums.{sum_by-cons, count_by-le-length, get_or-le-sum_by}
use Rattle.std.proofs.lemmas.Grind.{elements, get_or-set_at}
use Rattle.block_memory.specs.Content.{Block, Content, block_at, words_of, words_at as words_in_block, used_words}
use Rattle.block_memory.specs.Content.{block_count}
use Rattle.refcounts.specs.SharedState.{Slot, SharedState, empty_slot, slot_in, words_in, blocks_in}
use Rattle.refcounts.specs.Inside.{slot_of, slots_of, state_of, lengthened, IsCounted}
use Rattle.refcounts.specs.Making.{words_at}

pub slot_is : (content : Content) (counts : List ℕ) (id : ℕ)
    → slot_in (slots_of content counts) id ≡ slot_of (block_at content id) (get_or counts id 0)
slot_is [] counts id = refl
slot_is (block ∷ blocks) [] zero = refl
slot_is (block ∷ blocks) [] (suc id) = slot_is blocks [] id
slot_is (block ∷ blocks) (count ∷ counts) zero = refl
slot_is (block ∷ blocks) (count ∷ counts) (suc id) = slot_is blocks counts id

pub length-slots_of : (content : Content) (counts : List ℕ) → length (slots_of content counts) ≡ length content
length-slots_of [] counts = refl
length-slots_of (block ∷ blocks) [] = ap suc (length-slots_of blocks [])
length-slots_of (block ∷ blocks) (count ∷ counts) = ap suc (length-slots_of blocks counts)

-- a sum over the slots is one over the blocks
sum-slots_of : (f : Slot → ℕ) (g : Option Block → ℕ) (content : Content) (counts : List ℕ)
    → ((id : ℕ) → f (slot_of (block_at content id) (get_or counts id 0)) ≡ g (block_at content id))
    → sum_by f (slots_of content counts) ≡ sum_by g content
sum-slots_of f g [] counts same = refl
sum-slots_of f g (b ∷ bs) [] same =
    let rest = sum-slots_of f g bs [] (λ id. same (suc id)) in
    omega (arith, same 0, sum_by-cons f (slot_of b 0) (slots_of bs []), sum_by-cons g b bs)
sum-slots_of f g (b ∷ bs) (n ∷ ns) same =
    let rest = sum-slots_of f g bs ns (λ id. same (suc id)) in
    omega (arith, same 0, sum_by-cons f (slot_of b n) (slots_of bs ns), sum_by-cons g b bs)

pub all_words : (content : Content) (counts : List ℕ) → words_in (slots_of content counts) ≡ used_words content
all_words content counts =
    sum-slots_of (λ slot. length slot.words) (λ block. length (words_of block)) content counts (λ id. grind arith)

pub all_blocks : (content : Content) (counts : List ℕ) → IsCounted content counts
    → blocks_in (slots_of content counts) ≡ block_count content
all_blocks content counts c =
    sum-slots_of (λ slot. cond (ltb 0 slot.count) 1 0) (λ block. cond (is_some block) 1 0) content counts
    (λ id. grind (arith, nat_tests, c.live id))

-- the words of listed blocks
pub words_listed : (room : ℕ) (content : Content) (counts : List ℕ) (state : SharedState) (ids : List ℕ)
    → state_of room content counts ≡ state → map (words_in_block content) ids ≡ map (words_at state) ids
words_listed room content counts state [] view = refl
words_listed room content counts state (id ∷ ids) view =
    let rest = words_listed room content counts state ids view in
    let words : words_in_block content id ≡ words_at state id = grind (arith, slot_is) in cc

-- a block and its count are put at a number
pub slots_of-set : (content : Content) (counts : List ℕ) (id : ℕ) (block : Option Block) (count : ℕ)
    → id < length counts
    → slots_of (set content id block) (set counts id count) ≡ set (slots_of content counts) id (slot_of block count)
slots_of-set content counts id block count within =
    ext_get_or empty_slot _ _ (search (rules, length-slots_of, length-set))
    (λ k d. grind (arith, slot_is, length-slots_of, elements))

-- the same blocks with another count
pub slots_counted : (content : Content) (counts : List ℕ) (id count : ℕ) → id < length counts
    → slots_of content (set counts id count) ≡ set (slots_of content counts) id (slot_of (block_at content id) count)
slots_counted content counts id count within =
    grind (arith, slots_of-set content counts id (block_at content id) count, set-get_or content id None)

-- a block that one reference names, and other words in its place
pub slots_rewritten : (content : Content) (counts : List ℕ) (id : ℕ) (block : Block)
    → IsCounted content counts → (slot_in (slots_of content counts) id).count ≡ 1
    → slots_of (set content id (Some block)) counts ≡ set (slots_of content counts) id (slot_of (Some block) 1)
slots_rewritten content counts id block c single =
    let put = slots_of-set content counts id (Some block) 1 in
    let same = set-get_or counts id 0 in grind (arith, slot_is, get_or_past)

-- counts of 0 at the end change nothing
pub count-zeros : (counts : List ℕ) (n id : ℕ) → get_or (counts ++ replicate n 0) id 0 ≡ get_or counts id 0
count-zeros [] zero id = refl
count-zeros [] (suc n) zero = refl
count-zeros [] (suc n) (suc id) = count-zeros [] n id
count-zeros (count ∷ counts) n zero = refl
count-zeros (count ∷ counts) n (suc id) = count-zeros counts n id

pub slots_of-zeros : (content : Content) (counts : List ℕ) (n : ℕ)
    → slots_of content (counts ++ replicate n 0) ≡ slots_of content counts
slots_of-zeros content counts n =
    ext_get_or empty_slot _ _ (search (rules, length-slots_of)) (λ k d. grind (arith, slot_is, count-zeros))

pub length-lengthened : (counts : List ℕ) (id : ℕ) → id < length (lengthened counts (id + 1))
length-lengthened counts id = grind (arith, elements)

-- the slots of a memory with no block
pub slots_of_none : (content : Content) → block_count content ≡ 0
    → slots_of content [] ≡ replicate (length content) empty_slot
slots_of_none content none =
    ext_get_or empty_slot _ _ (search (rules, length-slots_of, length-replicate))
    (λ k d. grind (
      arith,
      slot_is,
      length-slots_of,
      get_or-replicate,
      get_or-le-sum_by (λ block. cond (is_some block) 1 0) content k None,
    ))

-- What is known of a block, of all blocks, and of a block and its count that are put at a number; then what the calls
-- need for the first reference to a block, for one more or less, and for other words in place of a block's.
pub ruleset of_block = (slot_is, get_or_past)

pub ruleset of_all = (slot_is, length-slots_of, all_words, all_blocks, count_by-le-length)

pub ruleset of_put = (slot_is, get_or_past, get_or-set_at, get_or-set_other, length-set, slots_of-set)

pub ruleset of_first = (of_put, length-slots_of, all_words, all_blocks, length-lengthened, slots_of-zeros, count-zeros)

pub ruleset of_count = (of_put, get_or_default, slots_counted, nat_tests)

pub ruleset of_rewrite = (of_put, slots_rewritten)
