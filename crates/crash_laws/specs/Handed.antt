-- The blobs that entries hand over, and what their store has acknowledged after them.
use Rattle.std.specs.Prelude.{◌≡◌, ℕ, List, [], ◌∷◌, map, Option, Some, None, IfSome}
use Rattle.std.specs.List.{AllByRecursion}
use Rattle.std.specs.Option.{option_map, option_map_or}
use Rattle.fetch_plan.specs.declared.Outcome.TheVariants.{Got, Gone, Refused, NoChecksum, Differs, TooLarge, BadAnswer, BadDocument, Fault}
use Rattle.outside.specs.Blobs.{Shelf}
use Rattle.repo_model.specs.Command.{Command, look, done, may_put, put, put_side, put_doc, drop_draft, open_session, stage, commit, abort, unlist, collect, ask, land}
use Rattle.repo_model.specs.Data.{Blob}
use Rattle.repo_model.specs.Fetched.{Landing, got_file, got_doc}
use Rattle.repo_model.specs.History.{Entry}
use Rattle.repo_laws.specs.Laws.{AnyByRecursion}
use Rattle.blob_audit.specs.Damages.{print_of}
use Rattle.crash_laws.specs.Stores.{StoreCall, looks, removes, stores, with_calls}

-- the blob of what came of a fetch
abbrev pub landed_blob : Landing → Option Blob
landed_blob (Got (got_file blob)) = Some blob
landed_blob (Got (got_doc doc)) = None
landed_blob Gone = None
landed_blob (Refused status) = None
landed_blob NoChecksum = None
landed_blob (Differs said found) = None
landed_blob TooLarge = None
landed_blob (BadAnswer at) = None
landed_blob (BadDocument at) = None
landed_blob Fault = None

-- the blob that a command hands over, to be put, staged or landed
abbrev pub handed : Command → Option Blob
handed (look repo path tried) = None
handed (done lease) = None
handed (may_put at path) = None
handed (put repo path n blob) = Some blob
handed (put_side at path said) = None
handed (put_doc at path) = None
handed (drop_draft n) = None
handed (open_session repo) = None
handed (stage at path n blob) = Some blob
handed (commit session) = None
handed (abort session) = None
handed (unlist repo) = None
handed collect = None
handed (ask question) = None
handed (land plan landing) = landed_blob landing

-- a blob tells its bytes, and has their fingerprint
abbrev pub IsTold : Blob → Type 0
IsTold blob = (bytes : List ℕ) × (blob.bytes ≡ Some bytes) × (blob.print ≡ print_of bytes)

-- so does each that these entries hand over
abbrev pub HandsTold : Command → Type 0
HandsTold command = IfSome (handed command) IsTold

abbrev pub AllHandTold : List Entry → Type 0
AllHandTold entries = AllByRecursion (λ (e : Entry). HandsTold e.command) entries

-- one of these entries hands over a blob of this number
abbrev pub HandsNumber : ℕ → Command → Type 0
HandsNumber n command = option_map (λ (blob : Blob). blob.number) (handed command) ≡ Some n

abbrev pub AnyHands : ℕ → List Entry → Type 0
AnyHands n entries = AnyByRecursion (λ (e : Entry). HandsNumber n e.command) entries

-- a command hands over a blob of this number that tells these bytes, and so does one of these entries
abbrev pub HandsBytes : ℕ → List ℕ → Command → Type 0
HandsBytes n bytes command = (blob : Blob) × (handed command ≡ Some blob) × (blob.number ≡ n) × (blob.bytes ≡ Some bytes)

abbrev pub AnyHandsBytes : ℕ → List ℕ → List Entry → Type 0
AnyHandsBytes n bytes entries = AnyByRecursion (λ (e : Entry). HandsBytes n bytes e.command) entries

-- no two of them hand over blobs of one number
abbrev pub HandOnce : List Entry → Type 0
HandOnce [] = Unit {0}
HandOnce (e ∷ entries) = ((n : ℕ) → HandsNumber n e.command → ¬ AnyHands n entries) × HandOnce entries

-- the call of a store by which the blob that an entry hands over was stored, where it tells its bytes
abbrev pub call_of : Blob → StoreCall
call_of blob = option_map_or (stores blob.number) blob.bytes looks

abbrev pub call_for : Entry → StoreCall
call_for e = option_map_or call_of (handed e.command) looks

-- what a store has acknowledged after these entries, as if it had removed nothing: what it told at first, and each blob that they hand over
abbrev pub acknowledged_by : Shelf → List Entry → Shelf
acknowledged_by shelf entries = with_calls shelf (map call_for entries)

-- what it has after them, where it has stored each blob that they hand over, and then removed those of some numbers
abbrev pub left_without : List ℕ → Shelf → List Entry → Shelf
left_without gone shelf entries = with_calls (acknowledged_by shelf entries) (map removes gone)
