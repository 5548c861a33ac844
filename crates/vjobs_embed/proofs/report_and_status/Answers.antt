use Rattle.std.proofs.Common.{rules}
use Rattle.vjobs_embed.proofs.EmbedLemmas.{written_in_memory}
use Rattle.vjobs_embed.proofs.report_and_status.Goals as goal

pub returns : goal.returns
returns c = written_in_memory c.args.region c.new-reader.result.inner.now c.args.batch.now
    c.new-writer.result.inner.items c.run_alone.new.writer.inner.items c.into_inner.result.items c.in_ok-status.status
    c.in_ok-status.ensures.runs.report (search rules) (search rules) (search rules)
