use Rattle.std.proofs.Common.{◌∙◌, ap, length, arith}
use Rattle.kind_list.proofs.ListLemmas.{length_piece}
use Rattle.kind_list.proofs.list.KindList.repeat_chunk.Goals as goal

pub push_full-requires : goal.push_full-requires
push_full-requires g c = ap length c.chunk-chunk.ensures ∙ length_piece c.args.self.now c.args.from 32 (omega arith)
