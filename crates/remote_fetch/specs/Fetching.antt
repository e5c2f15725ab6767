-- A fetch: the file or document first, and then a side file, each by one exchange.
use Rattle.std.specs.Prelude.{◌≡◌, ℕ, nat_lt, if◌then◌else◌, bytes_eq, List, [], length, Option, Some, None, Result, Ok, Err}
use Rattle.mvn_coords.specs.Path.{suffix_of}
use Rattle.mvn_coords.specs.declared.fault.Side.{Side}
use Rattle.mvn_coords.specs.declared.fault.Side.TheVariants as side
use Rattle.mvn_digest.specs.declared.digests.Digest.{Digest}
use Rattle.mvn_digest.specs.declared.digests.Digest.TheVariants as digest
use Rattle.mvn_digest.specs.Digests.{digests_of}
use Rattle.mvn_digest.specs.Sides.{side_of, read_side}
use Rattle.mvn_doc.specs.Reading.{reading}
use Rattle.mvn_metadata.specs.Document.{Document}
use Rattle.mvn_metadata.specs.Written.{text}
use Rattle.outside_remote.specs.Exchanges.{Sees}
use Rattle.fetch_plan.specs.declared.Plan.{Plan}
use Rattle.fetch_plan.specs.declared.Outcome.{Outcome}
use Rattle.fetch_plan.specs.declared.Outcome.TheVariants as came
use Rattle.remote_fetch.specs.declared.replies.Reply.{Reply}
use Rattle.remote_fetch.specs.declared.replies.Reply.TheVariants.{Body, Gone, Refused, TooLarge, Bad, Fault}
use Rattle.remote_fetch.specs.declared.fetching.Checked.{Checked}
use Rattle.remote_fetch.specs.declared.contents.Content.{Content}
use Rattle.remote_fetch.specs.declared.contents.Content.TheVariants as content
use Rattle.remote_fetch.specs.Exchanged.{IsAsked}

-- ---- a side file
-- the most bytes of one
abbrev pub longest_side : ℕ
longest_side = 1024

-- the digest of a side that has these bytes
abbrev pub digest_of : Side → List ℕ → Digest
digest_of side.Sha1 bytes = digest.Sha1 bytes
digest_of side.Md5 bytes = digest.Md5 bytes
digest_of side.Sha256 bytes = digest.Sha256 bytes
digest_of side.Sha512 bytes = digest.Sha512 bytes

-- what the digest that is said, if there is one, makes of bytes
abbrev pub compared : List ℕ → Side → Option (List ℕ) → Outcome Checked
compared bytes s None = came.NoChecksum
compared bytes s (Some said) =
    if bytes_eq said (side_of (digests_of bytes) s)
    then came.Got (record { bytes = bytes; digests = digests_of bytes })
    else came.Differs (digest_of s said) (digest_of s (side_of (digests_of bytes) s))

-- what the text of a side file makes of bytes
abbrev pub agreed : List ℕ → Side → List ℕ → Outcome Checked
agreed bytes s said = compared bytes s (read_side s said)

-- what the reply for a side file makes of bytes
abbrev pub said_of : List ℕ → Side → Reply → Outcome Checked
said_of bytes s (Body said) = agreed bytes s said
said_of bytes s Gone = came.NoChecksum
said_of bytes s (Refused status) = came.Refused status
said_of bytes s TooLarge = came.TooLarge
said_of bytes s (Bad at) = came.BadAnswer at
said_of bytes s Fault = came.Fault

-- ---- the bytes with their side file
abbrev pub IsByMd5 : Plan → List ℕ → Outcome Checked → Sees → Sees → Type 0
IsByMd5 plan bytes outcome old new =
    (reply : Reply) × IsAsked plan (suffix_of side.Md5) longest_side reply old new × (outcome ≡ said_of bytes side.Md5 reply)

-- the side file of SHA-1 decides, and where it is not there that of MD5
abbrev pub AfterSha1 : Plan → List ℕ → Reply → Outcome Checked → Sees → Sees → Type 0
AfterSha1 plan bytes Gone outcome old new = IsByMd5 plan bytes outcome old new
AfterSha1 plan bytes reply outcome old new = (outcome ≡ said_of bytes side.Sha1 reply) × (new ≡ old)

abbrev pub IsSided : Plan → List ℕ → Outcome Checked → Sees → Sees → Type 0
IsSided plan bytes outcome old new =
    (reply : Reply) × (mid : Sees) × IsAsked plan (suffix_of side.Sha1) longest_side reply old mid × AfterSha1 plan bytes reply outcome mid new

-- the body of a reply, or what a fetch comes to without one
abbrev pub body_in : Reply → Result (List ℕ) (Outcome Checked)
body_in (Body bytes) = Ok bytes
body_in Gone = Err came.Gone
body_in (Refused status) = Err (came.Refused status)
body_in TooLarge = Err came.TooLarge
body_in (Bad at) = Err (came.BadAnswer at)
body_in Fault = Err came.Fault

abbrev pub AfterBody : Plan → Result (List ℕ) (Outcome Checked) → Outcome Checked → Sees → Sees → Type 0
AfterBody plan (Ok bytes) outcome old new = IsSided plan bytes outcome old new
AfterBody plan (Err ended) outcome old new = (outcome ≡ ended) × (new ≡ old)

abbrev pub IsChecked : Plan → Outcome Checked → Sees → Sees → Type 0
IsChecked plan outcome old new =
    (reply : Reply) × (mid : Sees) × IsAsked plan [] plan.limit reply old mid × AfterBody plan (body_in reply) outcome mid new

-- ---- a file or a document
-- the most bytes of a document's written text
abbrev pub longest_text : ℕ
longest_text = 4_000_000

-- the document that was read, or where its first fault is
abbrev pub document_of : Result Document ℕ → Outcome Content
document_of (Ok d) = if nat_lt longest_text (length (text d)) then came.TooLarge else came.Got (content.Doc d)
document_of (Err at) = came.BadDocument at

-- a file, which has a draft, is its bytes, and a document is read from them
abbrev pub content_of : Option ℕ → Checked → Outcome Content
content_of (Some draft) checked = came.Got (content.File checked)
content_of None checked = document_of (reading checked.bytes)

abbrev pub with_content : Option ℕ → Outcome Checked → Outcome Content
with_content draft (came.Got checked) = content_of draft checked
with_content draft came.Gone = came.Gone
with_content draft (came.Refused status) = came.Refused status
with_content draft came.NoChecksum = came.NoChecksum
with_content draft (came.Differs said found) = came.Differs said found
with_content draft came.TooLarge = came.TooLarge
with_content draft (came.BadAnswer at) = came.BadAnswer at
with_content draft (came.BadDocument at) = came.BadDocument at
with_content draft came.Fault = came.Fault

-- bytes were got, of which a document may be read
abbrev pub HasGot : Outcome Checked → Type 0
HasGot (came.Got checked) = Unit {0}
HasGot outcome = ⊥

-- what comes of fetching a plan
abbrev pub IsFetched : Plan → Outcome Content → Sees → Sees → Type 0
IsFetched plan outcome old new =
    (checked : Outcome Checked) × IsChecked plan checked old new × (outcome ≡ with_content plan.draft checked)
