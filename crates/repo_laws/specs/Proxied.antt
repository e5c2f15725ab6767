-- Where the files come from that proxies keep and answer: a fetch that landed them, or the start.
use Rattle.std.specs.Prelude.{◌≡◌, ◌⊎◌, ℕ, List, ◌∷◌, ◌++◌}
use Rattle.fetch_plan.specs.declared.Plan.{Plan}
use Rattle.fetch_plan.specs.declared.Outcome.TheVariants.{Got}
use Rattle.repo_model.specs.Fetched.{got_file}
use Rattle.repo_model.specs.Data.{Blob}
use Rattle.repo_model.specs.Settings.{Settings}
use Rattle.repo_model.specs.State.{State, rows_of, files_of}
use Rattle.repo_model.specs.Command.{Command, look, land}
use Rattle.repo_model.specs.Reply.{file, landed}
use Rattle.repo_model.specs.History.{Entry, end}
use Rattle.repo_laws.specs.Laws.{AnyByRecursion}
use Rattle.repo_laws.specs.Looks.{IsRowOf, IsAsked}

-- the command lands a stored file for a proxy, at a path
abbrev pub LandsAs : List ℕ → List ℕ → Blob → Command → Type 0
LandsAs id path blob c = (plan : Plan) × (c ≡ land plan (Got (got_file blob))) × (plan.proxy ≡ id) × (plan.path ≡ path)

abbrev pub LandsFile : List ℕ → List ℕ → Blob → Entry → Type 0
LandsFile id path blob e = LandsAs id path blob e.command × (e.reply ≡ landed)

-- a file that a proxy keeps was kept at the start, or one of the entries landed it
abbrev pub WasLanded : State → List Entry → List ℕ → List ℕ → Blob → Type 0
WasLanded start entries id path blob = IsRowOf (files_of id start) path blob ⊎ AnyByRecursion (LandsFile id path blob) entries

-- each file that is answered is one of a hosted repository that was asked, or one that was landed before, or was kept at the start, by a proxy that was asked
abbrev pub Proxied : Settings → State → List Entry → Type 0
Proxied settings start entries =
    (before later : List Entry) (e : Entry) (id path tried : List ℕ) (lease : ℕ) (blob : Blob) → entries ≡ before ++ e ∷ later
    → e.command ≡ look id path tried → e.reply ≡ file lease blob
    → (one : List ℕ) × IsAsked settings id one × (IsRowOf (rows_of one (end settings start before)) path blob ⊎ WasLanded start before one path blob)
