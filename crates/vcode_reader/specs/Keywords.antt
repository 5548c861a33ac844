-- What must follow the first word of an instruction, and the instruction that it all is.
use Rattle.std.specs.Prelude.{ℕ, ℤ, Bool, true, false, List, [], ◌∷◌}
use Rattle.vcode_base.specs.declared.instr.Instr.TheVariants as instr
use Rattle.vcode_base.specs.declared.kind.Scalar.{Scalar}
use Rattle.vcode_base.specs.declared.kind.Scalar.TheVariants as scalar
use Rattle.vcode_base.specs.declared.op.Elementwise.TheVariants as elementwise
use Rattle.vcode_base.specs.declared.op.Segmented.TheVariants as segmented
use Rattle.vcode_base.specs.declared.op.Fold.{Fold}
use Rattle.vcode_base.specs.declared.op.Fold.TheVariants as folds
use Rattle.vcode_reader.specs.declared.keyword.Entries.TheVariants as entries
use Rattle.vcode_reader.specs.declared.keyword.Folding.{Folding}
use Rattle.vcode_reader.specs.declared.keyword.Folding.TheVariants as folding
use Rattle.vcode_reader.specs.declared.keyword.Keyword.{Keyword}
use Rattle.vcode_reader.specs.declared.keyword.Keyword.TheVariants as keyword
use Rattle.vcode_reader.specs.declared.keyword.WordSlot.{WordSlot}
use Rattle.vcode_reader.specs.declared.keyword.WordSlot.TheVariants as slot
use Rattle.vcode_reader.specs.declared.parts.Parts.{Parts}
use Rattle.vcode_reader.specs.Trees.{Item}

-- what the words of an instruction give, after its first
abbrev pub ItemParts : Type 0
ItemParts = Parts (List ℤ) (List ℕ)

abbrev pub no_parts : ItemParts
no_parts = record { kind = scalar.Int; lower = 0; upper = 0; numbers = []; callee = [] }

abbrev pub folding_slots : Folding → List WordSlot
folding_slots folding.Sum = slot.Int ∷ []
folding_slots folding.Product = slot.Int ∷ []
folding_slots folding.Max = slot.Int ∷ []
folding_slots folding.Min = slot.Int ∷ []
folding_slots (folding.Logic op) = slot.Kind ∷ []

-- what each word after the first must be, by the first: as the table of words says
abbrev pub keyword_slots : Keyword → List WordSlot
keyword_slots keyword.Const = slot.Kind ∷ slot.Values ∷ []
keyword_slots (keyword.Arith op) = slot.Int ∷ []
keyword_slots (keyword.Compare op) = slot.Int ∷ []
keyword_slots (keyword.Logic op) = slot.Kind ∷ []
keyword_slots keyword.Not = slot.Kind ∷ []
keyword_slots keyword.Select = slot.Kind ∷ []
keyword_slots keyword.IntToBool = []
keyword_slots keyword.BoolToInt = []
keyword_slots (keyword.Scan f) = folding_slots f
keyword_slots (keyword.Reduce f) = folding_slots f
keyword_slots keyword.Distribute = slot.Kind ∷ []
keyword_slots keyword.Index = []
keyword_slots keyword.Permute = slot.Kind ∷ []
keyword_slots keyword.BackPermute = slot.Kind ∷ []
keyword_slots keyword.DefaultPermute = slot.Kind ∷ []
keyword_slots keyword.Extract = slot.Kind ∷ []
keyword_slots keyword.Replace = slot.Kind ∷ []
keyword_slots keyword.Pack = slot.Kind ∷ []
keyword_slots keyword.MakeSegdes = []
keyword_slots keyword.Lengths = []
keyword_slots (keyword.Move motion) = slot.Count entries.Lower ∷ slot.Count entries.Upper ∷ []
keyword_slots keyword.Call = slot.Callee ∷ []

-- whether one word must follow the first, and is a kind
abbrev pub is_kind : List WordSlot → Bool
is_kind (slot.Int ∷ []) = true
is_kind (slot.Kind ∷ []) = true
is_kind _ = false

abbrev pub takes_kind : Keyword → Bool
takes_kind k = is_kind (keyword_slots k)

-- after these one word INT is allowed, which means nothing
abbrev pub takes_int : Keyword → Bool
takes_int keyword.Index = true
takes_int keyword.MakeSegdes = true
takes_int keyword.Lengths = true
takes_int _ = false

abbrev pub fold_of : Folding → Scalar → Fold
fold_of folding.Sum kind = folds.Sum
fold_of folding.Product kind = folds.Product
fold_of folding.Max kind = folds.Max
fold_of folding.Min kind = folds.Min
fold_of (folding.Logic op) kind = folds.Logic op kind

-- the instruction of a first word and of what the other words gave
abbrev pub instruction_of : Keyword → ItemParts → Item
instruction_of keyword.Const p = instr.Const p.kind p.numbers
instruction_of (keyword.Arith op) p = instr.Elementwise (elementwise.Arith op)
instruction_of (keyword.Compare op) p = instr.Elementwise (elementwise.Compare op)
instruction_of (keyword.Logic op) p = instr.Elementwise (elementwise.Logic op p.kind)
instruction_of keyword.Not p = instr.Elementwise (elementwise.Not p.kind)
instruction_of keyword.Select p = instr.Elementwise (elementwise.Select p.kind)
instruction_of keyword.IntToBool p = instr.Elementwise elementwise.IntToBool
instruction_of keyword.BoolToInt p = instr.Elementwise elementwise.BoolToInt
instruction_of (keyword.Scan f) p = instr.Segmented (segmented.Scan (fold_of f p.kind))
instruction_of (keyword.Reduce f) p = instr.Segmented (segmented.Reduce (fold_of f p.kind))
instruction_of keyword.Distribute p = instr.Segmented (segmented.Distribute p.kind)
instruction_of keyword.Index p = instr.Segmented segmented.Index
instruction_of keyword.Permute p = instr.Segmented (segmented.Permute p.kind)
instruction_of keyword.BackPermute p = instr.Segmented (segmented.BackPermute p.kind)
instruction_of keyword.DefaultPermute p = instr.Segmented (segmented.DefaultPermute p.kind)
instruction_of keyword.Extract p = instr.Segmented (segmented.Extract p.kind)
instruction_of keyword.Replace p = instr.Segmented (segmented.Replace p.kind)
instruction_of keyword.Pack p = instr.Segmented (segmented.Pack p.kind)
instruction_of keyword.MakeSegdes p = instr.Segmented segmented.MakeSegdes
instruction_of keyword.Lengths p = instr.Segmented segmented.Lengths
instruction_of (keyword.Move motion) p = instr.Move motion p.lower p.upper
instruction_of keyword.Call p = instr.Call p.callee
