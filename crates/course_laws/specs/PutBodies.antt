-- The body of a PUT: of what came after its head as many bytes as this announced.
use Rattle.std.specs.Prelude.{◌≡◌, ◌≤◌, ℕ, List, length, take}
use Rattle.std.specs.List.{AllByRecursion}
use Rattle.outside.specs.Told.{IsWhereTold}
use Rattle.repo_model.specs.Command.{Command, look, done, may_put, put, put_side, put_doc, drop_draft, open_session, stage, commit, abort, unlist, collect, ask, land}
use Rattle.repo_model.specs.Data.{Blob}
use Rattle.repo_model.specs.History.{Entry}
use Rattle.repo_course.specs.Serving.{print_of}

-- All of them came. A blob has their fingerprint, and where it tells its bytes, it tells these.
pub record HasBody (count : ℕ) (came : List ℕ) (blob : Blob) : Type 0 where
  pub whole : count ≤ length came
  pub print : blob.print ≡ print_of (take count came)
  pub bytes : IsWhereTold blob.bytes (take count came)

-- so has each blob that these entries put or stage
abbrev pub PutsBody : ℕ → List ℕ → Command → Type 0
PutsBody count came (look repo path tried) = Unit {0}
PutsBody count came (done lease) = Unit {0}
PutsBody count came (may_put at path) = Unit {0}
PutsBody count came (put repo path n blob) = HasBody count came blob
PutsBody count came (put_side at path said) = Unit {0}
PutsBody count came (put_doc at path) = Unit {0}
PutsBody count came (drop_draft n) = Unit {0}
PutsBody count came (open_session repo) = Unit {0}
PutsBody count came (stage at path n blob) = HasBody count came blob
PutsBody count came (commit session) = Unit {0}
PutsBody count came (abort session) = Unit {0}
PutsBody count came (unlist repo) = Unit {0}
PutsBody count came collect = Unit {0}
PutsBody count came (ask question) = Unit {0}
PutsBody count came (land plan landing) = Unit {0}

abbrev pub AllPutBody : ℕ → List ℕ → List Entry → Type 0
AllPutBody count came entries = AllByRecursion (λ (e : Entry). PutsBody count came e.command) entries
