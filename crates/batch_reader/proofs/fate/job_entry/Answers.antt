use Rattle.batch_reader.proofs.FateLemmas.{refused_with_none}
use Rattle.batch_reader.proofs.fate.job_entry.Goals as goal

pub returns-in-Refused : goal.returns-in-Refused
returns-in-Refused g c =
    λ region job head shown. record {
      name = head.name;
      fate = refused_with_none region job _ (rw c.in-Refused.is at shown);
    }
