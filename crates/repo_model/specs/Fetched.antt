-- What lands of a fetch.
use Rattle.mvn_metadata.specs.Document.{Document}
use Rattle.fetch_plan.specs.declared.Outcome.{Outcome}
use Rattle.repo_model.specs.Data.{Blob}

-- a file that is stored, or a document
pub data Got : Type 0 where
  got_file : Blob → Got
  got_doc : Document → Got

abbrev pub Landing : Type 0
Landing = Outcome Got
