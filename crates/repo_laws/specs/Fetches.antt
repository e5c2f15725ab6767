-- Worked histories of a proxy and a group: a file whose checksum differs, one that is gone, one that is got; a document that is asked for again after an hour.
use Rattle.std.specs.Prelude.{ℕ, List, [], ◌∷◌, Some, None, codes}
use Rattle.mvn_digest.specs.declared.digests.Digest.TheVariants.{Sha1}
use Rattle.mvn_digest.specs.Digests.{digests_of}
use Rattle.mvn_metadata.specs.Document.{Document}
use Rattle.mvn_metadata.specs.Written as written
use Rattle.mvn_metadata.specs.declared.listing.Listing.TheVariants.{Artifact}
use Rattle.fetch_plan.specs.declared.Plan.{Plan}
use Rattle.fetch_plan.specs.declared.Outcome.TheVariants.{Got, Gone, Differs, Fault}
use Rattle.repo_model.specs.Data.{repository}
use Rattle.repo_model.specs.Fetched.{got_file, got_doc}
use Rattle.repo_model.specs.Settings.{Settings, ProxyRule}
use Rattle.repo_model.specs.declared.question.Finding.TheVariants.{Counts}
use Rattle.repo_model.specs.declared.question.Question.TheVariants.{Status}
use Rattle.repo_model.specs.declared.update.Update.TheVariants.{Daily, Hourly}
use Rattle.repo_model.specs.Turn.{plan_of, longest_document}
use Rattle.repo_model.specs.Command.{look, done, may_put, put, collect, ask, land}
use Rattle.repo_model.specs.Reply.{file, doc, missed, given_back, draft, created, collected, finds, fetches, negative, landed}
use Rattle.repo_model.specs.History.{Entry}
use Rattle.repo_laws.specs.Worked.{shop, at, abc, releases, release_jar, sha1_of_abc, sha1_of_nothing}

abbrev pub central : List ℕ
central = codes "central"

abbrev pub public : List ℕ
public = codes "public"

abbrev pub central_rule : ProxyRule
central_rule = record {
  id = codes "central";
  host = codes "repo.test";
  port = 8080;
  prefix = codes "/m2";
  update = Daily;
  negative_seconds = 300;
  allow = codes "**" ∷ [];
  block = [];
}

abbrev pub file_plan : ℕ → ℕ → Plan
file_plan member under = plan_of member central_rule release_jar (Some under) 16777216

abbrev pub fetched : List Entry
fetched =
    at 1709208000 (look central release_jar []) (fetches (file_plan 0 1))
    ∷ at 1709208000 (land (file_plan 0 1) (Differs (Sha1 sha1_of_nothing) (Sha1 sha1_of_abc))) landed
    ∷ at 1709208000 (look central release_jar (0 ∷ [])) missed
    ∷ at 1709208000 (ask Status) (finds (Counts 0 0 0 0 0))
    ∷ at 1709208000 (look central release_jar []) (fetches (file_plan 0 2))
    ∷ at 1709208000 (land (file_plan 0 2) Gone) landed
    ∷ at 1709208000 (look central release_jar (0 ∷ [])) missed
    ∷ at 1709208299 (look central release_jar []) negative
    ∷ at 1709208300 (look central release_jar []) (fetches (file_plan 0 3))
    ∷ at 1709208300 (land (file_plan 0 3) (Got (got_file (abc 3)))) landed
    ∷ at 1709208300 (look central release_jar (0 ∷ [])) (file 1 (abc 3))
    ∷ at 1709208300 (done 1) given_back
    ∷ at 1709208301 (look central release_jar []) (file 2 (abc 3))
    ∷ at 1709208301 (done 2) given_back
    ∷ at 1709208301 (ask Status) (finds (Counts 0 0 1 0 0))
    ∷ at 1709208301 collect (collected 0 (1 ∷ 2 ∷ []))
    ∷ []

-- in a group the first member that has a file gives it, and a proxy is asked where none does
abbrev pub grouped : List Entry
grouped =
    at 1709208000 (look public release_jar []) (fetches (file_plan 2 1))
    ∷ at 1709208000 (land (file_plan 2 1) Fault) landed
    ∷ at 1709208000 (look public release_jar (2 ∷ [])) missed
    ∷ at 1709208000 (may_put (repository releases) release_jar) (draft 2)
    ∷ at 1709208000 (put releases release_jar 2 (abc 2)) created
    ∷ at 1709208000 (look public release_jar []) (file 1 (abc 2))
    ∷ []

abbrev pub hourly_shop : Settings
hourly_shop = record shop { proxies = record central_rule { update = Hourly } ∷ [] }

abbrev pub artifact_path : List ℕ
artifact_path = codes "org/acme/lib/maven-metadata.xml"

abbrev pub document_plan : Plan
document_plan = plan_of 0 central_rule artifact_path None longest_document

abbrev pub remote_document : Document
remote_document = record { group = None; artifact = None; listing = Artifact (codes "1.0" ∷ []) None }

abbrev pub kept_document : Document
kept_document = record { group = Some (codes "org.acme"); artifact = Some (codes "lib"); listing = Artifact (codes "1.0" ∷ []) None }

abbrev pub kept_text : List ℕ
kept_text = written.text kept_document

abbrev pub an_hour : List Entry
an_hour =
    at 1000 (look central artifact_path []) (fetches document_plan)
    ∷ at 1000 (land document_plan (Got (got_doc remote_document))) landed
    ∷ at 4599 (look central artifact_path []) (doc kept_text (digests_of kept_text))
    ∷ at 4600 (look central artifact_path []) (fetches document_plan)
    ∷ at 4600 (land document_plan Fault) landed
    ∷ at 4600 (look central artifact_path (0 ∷ [])) (doc kept_text (digests_of kept_text))
    ∷ at 4600 (ask Status) (finds (Counts 0 0 0 1 0))
    ∷ []
