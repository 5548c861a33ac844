use Rattle.std.proofs.Common.{arith, ap, sym, ◌∙◌}
use Rattle.batch_reader.specs.Fates.{JobEntry}
use Rattle.batch_packer.proofs.Files.{many_entries, no_entries, ready_entry, refused_entry}
use Rattle.batch_packer.proofs.job_file.only_name.Goals as goal

pub returns-then-len-eq0 : goal.returns-then-len-eq0
returns-then-len-eq0 g c region jobs are = no_entries region jobs c.args.entries.now (omega arith) are

pub returns-then-len-gt1 : goal.returns-then-len-gt1
returns-then-len-gt1 g c region jobs are = many_entries region jobs c.args.entries.now (omega arith) are

pub returns-in-Ready : goal.returns-in-Ready
returns-in-Ready g c region jobs are =
    ready_entry region jobs c.args.entries.now c.as_slice.result.now _ _ c.in-Ready.field-0 _ c.as_slice.ensures
    (omega arith) are c.index-as_slice-0.is c.in-Ready.is c.as_slice-in-Ready.ensures

pub returns-in-Refused : goal.returns-in-Refused
returns-in-Refused g c region jobs are =
    refused_entry region jobs c.args.entries.now c.as_slice.result.now _ c.in-Refused.line c.in-Refused.fault
    c.as_slice.ensures (omega arith) are (ap (λ (e : JobEntry). e.fate) (sym c.index-as_slice-0.is) ∙ c.in-Refused.is)
