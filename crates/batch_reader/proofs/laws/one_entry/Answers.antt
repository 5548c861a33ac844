use Rattle.batch_reader.proofs.OneBatch.{one_entry}
use Rattle.batch_reader.proofs.laws.one_entry.Goals as goal

pub returns : goal.returns
returns c = one_entry
