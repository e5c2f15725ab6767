-- Rows whose grace period is over, as the machine's plain data.
use Rattle.std.specs.Prelude.{ℕ, List, string_bytes}
use Rattle.repo_model.specs.Effect.{Effect, expires}
use Rattle.hosted_repo.specs.declared.purge.Expired.{Expired}

-- such a row of a repository goes
abbrev pub shown_expired : List ℕ → Expired → Effect
shown_expired repo e = expires repo (string_bytes e.path) e.blob

-- the blob of a row that goes
abbrev pub blob_of : Effect → ℕ
blob_of (expires repo path blob) = blob
blob_of effect = 0
