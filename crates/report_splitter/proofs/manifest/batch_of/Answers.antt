use Rattle.report_splitter.specs.Manifests.{seal_words}
use Rattle.report_splitter.proofs.manifest.batch_of.Goals as goal

pub returns-in-None : goal.returns-in-None
returns-in-None c seal t is = c.in-None.ensures.found (seal_words seal) is
