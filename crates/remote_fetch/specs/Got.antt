-- What a fetch that got something has from the remote, and when a fetch is a fault.
use Rattle.std.specs.Prelude.{◌≡◌, ◌≤◌, ℕ, List, [], length, Some, None, Ok}
use Rattle.mvn_coords.specs.Path.{suffix_of}
use Rattle.mvn_coords.specs.declared.fault.Side.{Side}
use Rattle.mvn_digest.specs.Digests.{digests_of}
use Rattle.mvn_digest.specs.Sides.{side_of, read_side}
use Rattle.mvn_doc.specs.Reading.{reading}
use Rattle.mvn_metadata.specs.Written.{text}
use Rattle.outside.specs.Faults.{Rose}
use Rattle.outside_remote.specs.Exchanges.{Sees}
use Rattle.fetch_plan.specs.declared.Plan.{Plan}
use Rattle.fetch_plan.specs.declared.Outcome.{Outcome}
use Rattle.fetch_plan.specs.declared.Outcome.TheVariants as came
use Rattle.remote_fetch.specs.declared.replies.Reply.TheVariants.{Body}
use Rattle.remote_fetch.specs.declared.fetching.Checked.{Checked}
use Rattle.remote_fetch.specs.declared.contents.Content.{Content}
use Rattle.remote_fetch.specs.declared.contents.Content.TheVariants as content
use Rattle.remote_fetch.specs.Exchanged.{IsAsked}
use Rattle.remote_fetch.specs.Fetching.{longest_side, longest_text}

-- a fault has raised the count of faults, and any other outcome leaves it
abbrev pub HasFetchCause : {G : Type 0} → Outcome G → ℕ → ℕ → Type 0
HasFetchCause came.Fault before after = Rose before after
HasFetchCause outcome before after = after ≡ before

-- the bytes are the body that the first answer had, and the last answer was a side file that says their digest
pub record IsAgreed (plan : Plan) (checked : Checked) (old new : Sees) : Type 0 where
  pub given : (mid : Sees) × IsAsked plan [] plan.limit (Body checked.bytes) old mid
  pub within : length checked.bytes ≤ plan.limit
  pub digests : checked.digests ≡ digests_of checked.bytes
  pub said : (s : Side) × (said : List ℕ) × (mid : Sees) × IsAsked plan (suffix_of s) longest_side (Body said) mid new
      × (read_side s said ≡ Some (side_of (digests_of checked.bytes) s))

-- a file is got where there is a draft, and a document, which is read from its bytes, where there is none
abbrev pub IsGot : Plan → Content → Sees → Sees → Type 0
IsGot plan (content.File checked) old new = ((draft : ℕ) × (plan.draft ≡ Some draft)) × IsAgreed plan checked old new
IsGot plan (content.Doc d) old new =
    (plan.draft ≡ None)
    × ((checked : Checked) × IsAgreed plan checked old new × (reading checked.bytes ≡ Ok d) × (length (text d) ≤ longest_text))
