-- Why a proxy decides as it does at the path of a file or document.
use Rattle.std.specs.Prelude.{◌≡◌, ◌≢◌, ◌⊎◌, ℕ, ◌+◌, ◌<◌, Bool, false, List, find, Some, None, Result, Ok, IsTrue}
use Rattle.mvn_coords.specs.Kind.{kind}
use Rattle.mvn_coords.specs.declared.kind.Kind.{Kind}
use Rattle.mvn_coords.specs.declared.kind.Kind.TheVariants.{File, Doc}
use Rattle.mvn_coords.specs.declared.fault.PathFault.{PathFault}
use Rattle.path_patterns.specs.Pattern.{is_let_through}
use Rattle.repo_model.specs.declared.update.Update.{Update}
use Rattle.repo_model.specs.declared.update.Update.TheVariants as update
use Rattle.repo_model.specs.declared.step.Step.{Step}
use Rattle.repo_model.specs.declared.step.Step.TheVariants.{Serve, Missed, Blocked, Negative, Never, Fetch}
use Rattle.repo_model.specs.Data.{Row, Kept, NegativeEntry, Proxy}
use Rattle.repo_model.specs.State.{is_negative_of, row_at}
use Rattle.repo_model.specs.Proxies.{kept_at}

-- a file or a document
abbrev pub IsSubject : Result Kind PathFault → Type 0
IsSubject (Ok (File c)) = Unit {0}
IsSubject (Ok (Doc d)) = Unit {0}
IsSubject k = ⊥

-- the patterns of the proxy let the path through
abbrev pub IsLetThrough : Proxy → List ℕ → Type 0
IsLetThrough p at = IsTrue (is_let_through p.rule.allow p.rule.block at)

-- how long a document that was checked at a moment is fresh
abbrev pub IsFresh : Update → ℕ → ℕ → Type 0
IsFresh update.Always checked now = ⊥
IsFresh update.Hourly checked now = now < checked + 3_600
IsFresh update.Daily checked now = now < checked + 86_400
IsFresh update.Once checked now = Unit {0}
IsFresh update.Never checked now = ⊥

-- the remote had nothing there, so few seconds ago that it counts
abbrev pub IsMissing : Proxy → ℕ → List ℕ → Type 0
IsMissing p now at = (m : NegativeEntry) × (find (is_negative_of at) p.negatives ≡ Some m) × (now < m.moment + p.rule.negative_seconds)

-- the remote is not asked: it was tried, it is never asked, or it had nothing
abbrev pub IsUnasked : Proxy → ℕ → Bool → List ℕ → Type 0
IsUnasked p now tried at = IsTrue tried ⊎ ((p.rule.update ≡ update.Never) ⊎ IsMissing p now at)

-- no file, or no document, is kept there
abbrev pub KeepsNothing : Proxy → List ℕ → Result Kind PathFault → Type 0
KeepsNothing p at (Ok (File c)) = row_at at p.files ≡ None
KeepsNothing p at (Ok (Doc d)) = kept_at at p.documents ≡ None
KeepsNothing p at k = ⊥

-- a file is kept there, or a document that is fresh, or one that is stale while the remote is not asked
abbrev pub KeepsEnough : Proxy → ℕ → Bool → List ℕ → Result Kind PathFault → Type 0
KeepsEnough p now tried at (Ok (File c)) = (row : Row) × (row_at at p.files ≡ Some row)
KeepsEnough p now tried at (Ok (Doc d)) =
    (kept : Kept) × (kept_at at p.documents ≡ Some kept) × (IsFresh p.rule.update kept.checked now ⊎ IsUnasked p now tried at)
KeepsEnough p now tried at k = ⊥

-- no file is kept there, or no document that is fresh
abbrev pub KeepsTooLittle : Proxy → ℕ → List ℕ → Result Kind PathFault → Type 0
KeepsTooLittle p now at (Ok (File c)) = row_at at p.files ≡ None
KeepsTooLittle p now at (Ok (Doc d)) = (kept : Kept) → kept_at at p.documents ≡ Some kept → IsFresh p.rule.update kept.checked now → ⊥
KeepsTooLittle p now at k = ⊥

-- the cause of each step, at a path of a kind
abbrev pub DecidedFor : Proxy → ℕ → Bool → List ℕ → Result Kind PathFault → Step → Type 0
DecidedFor p now tried at k Blocked = is_let_through p.rule.allow p.rule.block at ≡ false
DecidedFor p now tried at k Serve = IsLetThrough p at × KeepsEnough p now tried at k
DecidedFor p now tried at k Missed = IsLetThrough p at × KeepsNothing p at k × IsTrue tried
DecidedFor p now tried at k Never = IsLetThrough p at × KeepsNothing p at k × (tried ≡ false) × (p.rule.update ≡ update.Never)
DecidedFor p now tried at k Negative =
    IsLetThrough p at × KeepsNothing p at k × (tried ≡ false) × (p.rule.update ≢ update.Never) × IsMissing p now at
DecidedFor p now tried at k Fetch =
    IsLetThrough p at × KeepsTooLittle p now at k × (tried ≡ false) × (p.rule.update ≢ update.Never) × (IsMissing p now at → ⊥)

abbrev pub DecidedBy : Proxy → ℕ → Bool → List ℕ → Step → Type 0
DecidedBy p now tried at step = DecidedFor p now tried at (kind at) step
