use Rattle.std.proofs.Common.{[], sym}
use Rattle.std.proofs.lemmas.Option.{get_or_from_slice_get}
use Rattle.job_history.proofs.Mirrors.{none_found}
use Rattle.job_history.proofs.mirror.words_at.Goals as goal

pub returns-in-Some : goal.returns-in-Some
returns-in-Some g c = sym (get_or_from_slice_get _ c.args.depth c.in-Some.words.now [] (sym c.in-Some.ensures))

pub returns-in-None : goal.returns-in-None
returns-in-None g c = sym (none_found _ c.args.depth [] (sym c.in-None.ensures))
