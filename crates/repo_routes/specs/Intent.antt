-- What a request asks of the repository, as plain data (RFC 9110, section 9.3).
use Rattle.std.specs.Prelude.{ℕ, Bool, List}
use Rattle.mvn_coords.specs.declared.fault.Side.{Side}
use Rattle.repo_model.specs.declared.question.Question.{Question}
use Rattle.repo_model.specs.Data.{Place}
use Rattle.repo_routes.specs.declared.intent.Sort.{Sort}

-- what a request asks for; a path is decoded, and a length is that of the request's body, in bytes
pub data Intent : Type 0 where
  -- GET or HEAD of a file, a document or a side file, at a repository of this sort
  reads : (repo path : List ℕ) (sort : Sort) → Intent
  -- PUT of a file, in a repository or in an open session
  puts_file : (place : Place) (path : List ℕ) (length : ℕ) → Intent
  -- PUT of a side file
  puts_side : (place : Place) (path : List ℕ) (side : Side) (length : ℕ) → Intent
  -- PUT of a document
  puts_document : (place : Place) (path : List ℕ) (length : ℕ) → Intent
  -- GET or HEAD of what the repository finds to a question
  asks : Question → Intent
  -- POST of a cleaning: these hosted repositories are purged, in this order, and garbage is removed
  cleans : (repos : List (List ℕ)) → Intent
  -- POST of a session: one is opened for a repository, or all files of one are deployed, or it is given up
  opens : (repo : List ℕ) → Intent
  commits : (session : ℕ) → Intent
  aborts : (session : ℕ) → Intent

-- a request that is not refused
pub record Judged : Type 0 where
  pub intent : Intent
  -- the answer has no body
  pub head_only : Bool
  -- the connection ends after the answer
  pub close : Bool
  -- the client waits for `100 Continue` before it sends the body
  pub expects : Bool
