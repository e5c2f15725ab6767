-- Which directories may have other documents once a file was put, a fetch landed, rows were unlisted, or a session ended.
use Rattle.std.specs.Prelude.{ℕ, ◌==◌, Bool, true, false, if◌then◌else◌, List, Result, Ok, Err}
use Rattle.fetch_plan.specs.declared.Outcome.TheVariants.{Got}
use Rattle.mvn_coords.specs.Segment.{levels}
use Rattle.repo_model.specs.Fetched.{Landing, got_doc}
use Rattle.repo_model.specs.Reply.{Reply, created, ended, relisted}
use Rattle.repo_model.specs.declared.session.SessionResult.TheVariants.{Done}
use Rattle.row_tables.specs.declared.faults.CommitFault.{CommitFault}
use Rattle.repo_parts.specs.Shelves.{everywhere, is_above, is_above_file, nowhere}

-- a file was put at a path, and that was the reply
abbrev pub gone_by_put : List ℕ → Reply → List ℕ → Bool
gone_by_put path created = is_above_file (levels path)
gone_by_put path relisted = is_above_file (levels path)
gone_by_put path reply = nowhere

-- a document came of a fetch
abbrev pub is_of_document : Landing → Bool
is_of_document (Got (got_doc document)) = true
is_of_document landing = false

-- what came of a fetch landed at a path
abbrev pub gone_by_landing : List ℕ → (of_document failed : Bool) → List ℕ → Bool
gone_by_landing path true false = is_above (levels path)
gone_by_landing path of_document failed = nowhere

-- so many rows were unlisted, or none were
abbrev pub gone_by_unlist : Result ℕ CommitFault → List ℕ → Bool
gone_by_unlist (Ok count) = if count == 0 then nowhere else everywhere
gone_by_unlist (Err fault) = nowhere

-- a session was to be committed, and that was the reply
abbrev pub gone_by_commit : Reply → List ℕ → Bool
gone_by_commit (ended (Done count)) = everywhere
gone_by_commit reply = nowhere
