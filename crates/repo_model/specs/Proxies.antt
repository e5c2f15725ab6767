-- How a proxy decides what it answers of a path, and what a fetch that lands makes of it.
use Rattle.std.specs.Prelude.{ℕ, ◌+◌, Bool, true, false, nat_lt, if◌then◌else◌, List, find, Option, Some, None, Result, Ok, is_some}
use Rattle.mvn_coords.specs.Kind.{kind}
use Rattle.mvn_coords.specs.declared.kind.Kind.{Kind}
use Rattle.mvn_coords.specs.declared.kind.Kind.TheVariants.{File, FileSide, Doc, DocSide}
use Rattle.mvn_coords.specs.declared.fault.PathFault.{PathFault}
use Rattle.mvn_coords.specs.Layout.{text_of, text_of_document}
use Rattle.mvn_metadata.specs.Document.{Document, settled}
use Rattle.path_patterns.specs.Pattern.{is_let_through}
use Rattle.repo_model.specs.declared.update.Update.{Update}
use Rattle.repo_model.specs.declared.update.Update.TheVariants as update
use Rattle.repo_model.specs.declared.step.Step.{Step}
use Rattle.repo_model.specs.declared.step.Step.TheVariants.{Serve, Missed, Blocked, Negative, Never, Fetch}
use Rattle.repo_model.specs.Data.{Kept, NegativeEntry, Proxy}
use Rattle.repo_model.specs.State.{is_kept, is_negative_of, row_at}

-- the path of a file or document, also by the path of its side file
abbrev pub subject_of : List ℕ → Result Kind PathFault → List ℕ
subject_of path (Ok (FileSide c side)) = text_of c
subject_of path (Ok (DocSide d side)) = text_of_document d
subject_of path _ = path

abbrev pub kept_at : List ℕ → List Kept → Option Kept
kept_at path documents = find (is_kept path) documents

-- a document that was checked at a moment need not be asked for again
abbrev pub is_fresh : Update → ℕ → ℕ → Bool
is_fresh update.Always checked now = false
is_fresh update.Hourly checked now = nat_lt now (checked + 3_600)
is_fresh update.Daily checked now = nat_lt now (checked + 86_400)
is_fresh update.Once checked now = true
is_fresh update.Never checked now = false

abbrev pub asks_never : Update → Bool
asks_never update.Never = true
asks_never policy = false

abbrev pub is_fresh_negative : ℕ → ℕ → Option NegativeEntry → Bool
is_fresh_negative seconds now None = false
is_fresh_negative seconds now (Some m) = nat_lt now (m.moment + seconds)

-- what is done where nothing that may be served stands at the path; it was tried already, or not
abbrev pub step_out : Proxy → ℕ → Bool → List ℕ → Step
step_out p now tried path =
    if tried then Missed
    else if asks_never p.rule.update then Never
    else if is_fresh_negative p.rule.negative_seconds now (find (is_negative_of path) p.negatives) then Negative
    else Fetch

-- a stale document is served unless the remote is asked
abbrev pub instead : Step → Step
instead Fetch = Fetch
instead step = Serve

abbrev pub document_step : Proxy → ℕ → Step → Option Kept → Step
document_step p now out None = out
document_step p now out (Some k) = if is_fresh p.rule.update k.checked now then Serve else instead out

abbrev pub step_for : Proxy → ℕ → Bool → List ℕ → Result Kind PathFault → Step
step_for p now tried path (Ok (File c)) = if is_some (row_at path p.files) then Serve else step_out p now tried path
step_for p now tried path (Ok (Doc d)) = document_step p now (step_out p now tried path) (kept_at path p.documents)
step_for p now tried path _ = Missed

-- the step for the path of a file or document
abbrev pub decided : Proxy → ℕ → Bool → List ℕ → Step
decided p now tried path =
    if is_let_through p.rule.allow p.rule.block path then step_for p now tried path (kind path) else Blocked

-- a landed document is that of its path's directory
abbrev pub settled_at : Document → Result Kind PathFault → Document
settled_at document (Ok (Doc d)) = settled document d
settled_at document _ = document
