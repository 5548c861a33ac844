-- The names of the faults as the report prints them.
use Rattle.std.specs.Prelude.{ℕ, List, codes}
use Rattle.vcode_base.specs.declared.fault.DataFault.{DataFault}
use Rattle.vcode_base.specs.declared.fault.DataFault.TheVariants.{LengthsDiffer, SegmentTotal, SegmentCount}
use Rattle.vcode_base.specs.declared.fault.DataFault.TheVariants.{ZeroDivisor, BadShift, BadIndex, IndexTwice}
use Rattle.vcode_base.specs.declared.fault.DataFault.TheVariants.{BadLength, NotSingle}
use Rattle.vcode_base.specs.declared.fault.MemoryFault.{MemoryFault}
use Rattle.vcode_base.specs.declared.fault.MemoryFault.TheVariants.{Words, Cells, Calls}

abbrev pub data_fault_text : DataFault → List ℕ
data_fault_text LengthsDiffer = codes "F1 LENGTHS_DIFFER"
data_fault_text SegmentTotal = codes "F2 SEGMENT_TOTAL"
data_fault_text SegmentCount = codes "F3 SEGMENT_COUNT"
data_fault_text ZeroDivisor = codes "F4 ZERO_DIVISOR"
data_fault_text BadShift = codes "F5 BAD_SHIFT"
data_fault_text BadIndex = codes "F6 BAD_INDEX"
data_fault_text IndexTwice = codes "F7 INDEX_TWICE"
data_fault_text BadLength = codes "F8 BAD_LENGTH"
data_fault_text NotSingle = codes "F9 NOT_SINGLE"

abbrev pub memory_fault_text : MemoryFault → List ℕ
memory_fault_text Words = codes "M1 WORDS"
memory_fault_text Cells = codes "M2 CELLS"
memory_fault_text Calls = codes "M3 CALLS"
