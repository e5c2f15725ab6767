use Rattle.std.proofs.Common.{refl}
use Rattle.std.specs.Prelude.{is_none}
use Rattle.repo_model.specs.Tables.{recorded_at, names_blob}
use Rattle.repo_laws.proofs.Holding.{first-misfit}
use Rattle.repo_laws.proofs.HoldingItems.{put-fits, faded-fits, fading-fits, opened-fits, ended-fits, digested-fits}
use Rattle.repo_laws.proofs.tables.items_fit.Goals as goal

pub returns-clause-hosted_put : goal.returns-clause-hosted_put
returns-clause-hosted_put c = λ t repo path blob print accepted. put-fits (is_none (recorded_at repo path t.hosted)) (names_blob blob t) (recorded_at repo path t.hosted) refl

pub returns-clause-cached_file : goal.returns-clause-cached_file
returns-clause-cached_file c = λ t repo path blob print accepted. put-fits (is_none (recorded_at repo path t.cached)) (names_blob blob t) (recorded_at repo path t.cached) refl

pub returns-clause-cached_doc : goal.returns-clause-cached_doc
returns-clause-cached_doc c = λ t repo path checked document. refl

pub returns-clause-faded : goal.returns-clause-faded
returns-clause-faded c = faded-fits

pub returns-clause-relisted : goal.returns-clause-relisted
returns-clause-relisted c = λ t repo path accepted. fading-fits (recorded_at repo path t.hosted)

pub returns-clause-removed : goal.returns-clause-removed
returns-clause-removed c = λ t repo path. fading-fits (recorded_at repo path t.hosted)

pub returns-clause-session_opened : goal.returns-clause-session_opened
returns-clause-session_opened c = opened-fits

pub returns-clause-session_ended : goal.returns-clause-session_ended
returns-clause-session_ended c = ended-fits

pub returns-clause-digested : goal.returns-clause-digested
returns-clause-digested c = digested-fits

pub returns-clause-first : goal.returns-clause-first
returns-clause-first c = first-misfit
