use Rattle.std.proofs.Common.{rules}
use Rattle.batch_front.specs.Reports.{report_of, status_of}
use Rattle.vjobs_embed.proofs.EmbedLemmas.{delivered_as}
use Rattle.vjobs_embed.proofs.vjobs_run.Goals as goal

pub returns-in-Ok-clause-report : goal.returns-in-Ok-clause-report
returns-in-Ok-clause-report c fits apart =
    let written = c.in-Ok.ensures in (
      written.0,
      written.1,
      delivered_as c.deref.result.now c.in-Ok.report.items (report_of written.0) c.in-Ok.status (status_of written.0)
          c.args.out.now c.deliver.new.out c.deliver.result c.len.result c.deliver.ensures.left (search rules) written.2
          written.3 (search rules),
    )
