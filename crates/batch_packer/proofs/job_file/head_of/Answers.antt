use Rattle.std.proofs.Common.{[], ◌∙◌, subst, sym}
use Rattle.batch_packer.specs.Packs.{HoldsNamed}
use Rattle.batch_packer.proofs.Files.{holds_job, refuses_jobs}
use Rattle.batch_packer.proofs.job_file.head_of.Goals as goal

pub returns-in-Ok : goal.returns-in-Ok
returns-in-Ok g c =
    subst (HoldsNamed c.args.region c.args.bytes.now c.in-Jobs.rule) (sym c.in_ok-from_slice-in-Ok.ensures.items)
    (holds_job c.args.region c.feed.new.self.lines.region c.args.bytes.now c.in_ok-line.field-0 c.in-Jobs.rule
    c.in-Jobs.entries c.in-Ok.name.now (c.feed.ensures.region ∙ c.in_ok-feed.ensures.region) c.in-Jobs.is
    (c.in_ok-line.ensures.batch c.args.bytes.now (c.in_ok-feed-2.ensures.fed [] c.in_ok-feed.ensures.come))
    c.in-Ok.ensures)

pub returns : goal.returns
returns g c =
    refuses_jobs c.args.region c.feed.new.self.lines.region c.args.bytes.now c.in_ok-line.field-0 c.in-Jobs.rule
    c.in-Jobs.entries c.in-Err.fault (c.feed.ensures.region ∙ c.in_ok-feed.ensures.region) c.in-Jobs.is
    (c.in_ok-line.ensures.batch c.args.bytes.now (c.in_ok-feed-2.ensures.fed [] c.in_ok-feed.ensures.come))
    c.in-Err.ensures
