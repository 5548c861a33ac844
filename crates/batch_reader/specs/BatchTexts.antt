-- The names of the refusals of a batch and of a job as the report prints them.
use Rattle.std.specs.Prelude.{ℕ, List, codes}
use Rattle.signatures.specs.Faults.{signature_fault_text}
use Rattle.vcode_reader.specs.Refusals.{refusal_text}
use Rattle.verifier.specs.Faults.{kind_fault_text}
use Rattle.batch_reader.specs.declared.fault.BatchFault.{BatchFault}
use Rattle.batch_reader.specs.declared.fault.BatchFault.TheVariants.{BadJobLine, UnfinishedJob, TooLarge}
use Rattle.batch_reader.specs.declared.fault.JobFault.{JobFault}
use Rattle.batch_reader.specs.declared.fault.JobFault.TheVariants.{WordsPastRegion, Sig, Read, Kind}

abbrev pub batch_fault_text : BatchFault → List ℕ
batch_fault_text BadJobLine = codes "B1 BAD_JOB_LINE"
batch_fault_text UnfinishedJob = codes "B2 UNFINISHED_JOB"
batch_fault_text TooLarge = codes "B4 TOO_LARGE"

abbrev pub job_fault_text : JobFault → List ℕ
job_fault_text WordsPastRegion = codes "B3 WORDS_PAST_REGION"
job_fault_text (Sig fault) = signature_fault_text fault
job_fault_text (Read fault) = refusal_text fault
job_fault_text (Kind fault) = kind_fault_text fault
