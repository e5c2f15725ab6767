-- Items as bytes, and the form that each has: numbers have their highest byte first, a text has its length in 2 bytes in
-- front of it (Maven 2 repository layout for paths; repository metadata 1.1.0 for documents).
use Rattle.std.specs.Prelude.{◌<◌, ◌^◌, ℕ, Bool, true, false, ◌&&◌, ◌||◌, ◌==◌, nat_lt, nat_le, IsTrue, List, ◌∷◌, ◌++◌, length, Option, Some, None, Result, Ok, is_some, is_none, bytes_eq}
use Rattle.std.specs.List.{list_all, flat_map}
use Rattle.std.specs.Char.{is_ascii_lowercase, is_ascii_digit}
use Rattle.std.specs.Int.{w16, w32, w64, to_be_bytes}
use Rattle.mvn_coords.specs.Kind.{kind}
use Rattle.mvn_coords.specs.Layout.{Directory}
use Rattle.mvn_coords.specs.declared.fault.PathFault.{PathFault}
use Rattle.mvn_coords.specs.declared.kind.Kind.{Kind}
use Rattle.mvn_coords.specs.declared.kind.Kind.TheVariants.{Doc}
use Rattle.mvn_digest.specs.declared.known.Further.{Further}
use Rattle.mvn_metadata.specs.Document.{Document, settled}
use Rattle.mvn_metadata.specs.Form.{is_document}
use Rattle.mvn_metadata.specs.Written.{text}
use Rattle.repo_model.specs.Paths.{file_at}
use Rattle.repo_model.specs.declared.item.Item.{Item}
use Rattle.repo_model.specs.declared.item.Item.TheVariants.{HostedPut, Faded, Relisted, Removed, CachedFile, CachedDoc, SessionOpened, SessionEnded, Digested}
use Rattle.repo_model.specs.declared.print.Recorded.{Recorded}
use Rattle.repo_model.specs.declared.session.SessionResult.{SessionResult}
use Rattle.repo_model.specs.declared.session.SessionResult.TheVariants.{Aborted, Done}
use Rattle.row_tables.specs.declared.version.Version.{Version}
use Rattle.row_tables.specs.declared.version.Version.TheVariants.{First, Second}

-- an id: 1 to 64 of a-z, 0-9 and -
abbrev pub is_id_byte : ℕ → Bool
is_id_byte b = is_ascii_lowercase b || is_ascii_digit b || (b == 45)

abbrev pub is_id : List ℕ → Bool
is_id id = nat_lt 0 (length id) && (nat_le (length id) 64 && list_all is_id_byte id)

-- the path of a file
abbrev pub is_file_path : List ℕ → Bool
is_file_path path = is_some (file_at path)

-- the directory whose document a path names
abbrev pub directory_in : Result Kind PathFault → Option Directory
directory_in (Ok (Doc directory)) = Some directory
directory_in _ = None

abbrev pub directory_at : List ℕ → Option Directory
directory_at path = directory_in (kind path)

-- a moment from 1970 up to the year 9999; a length or count; a blob's or a session's number
abbrev pub is_moment : ℕ → Bool
is_moment n = nat_le n 253402207200

abbrev pub is_count : ℕ → Bool
is_count n = nat_le n 9223372036854775807

abbrev pub is_number : ℕ → Bool
is_number n = nat_lt 0 n && nat_le n 9223372036854775807

abbrev pub is_further : Further → Bool
is_further f = (length f.sha256 == 32) && (length f.sha512 == 64)

abbrev pub are_after_sha1 : List ℕ → Option Further → Bool
are_after_sha1 md5 None = length md5 == 16
are_after_sha1 md5 (Some f) = (length md5 == 16) && is_further f

abbrev pub is_print : Recorded → Bool
is_print print = is_count print.length && ((length print.digests.sha1 == 20) && are_after_sha1 print.digests.md5 print.digests.further)

-- a document as it is settled for the directory of its path, of at most 4,100,000 bytes
abbrev pub is_kept_in : Option Directory → Document → Bool
is_kept_in None document = false
is_kept_in (Some directory) document =
    is_document document && (bytes_eq (text (settled document directory)) (text document) && nat_le (length (text document)) 4100000)

abbrev pub is_kept_at : List ℕ → Document → Bool
is_kept_at path document = is_kept_in (directory_at path) document

abbrev pub is_result : SessionResult → Bool
is_result Aborted = true
is_result (Done count) = is_count count

-- the form of an item
abbrev pub is_item : Item → Bool
is_item (HostedPut repo path blob print accepted) = is_id repo && (is_file_path path && (is_number blob && (is_print print && is_moment accepted)))
is_item (Faded repo path moment) = is_id repo && (is_file_path path && is_moment moment)
is_item (Relisted repo path accepted) = is_id repo && (is_file_path path && is_moment accepted)
is_item (Removed repo path) = is_id repo && is_file_path path
is_item (CachedFile repo path blob print accepted) = is_id repo && (is_file_path path && (is_number blob && (is_print print && is_moment accepted)))
is_item (CachedDoc repo path checked document) = is_id repo && (is_some (directory_at path) && (is_moment checked && is_kept_at path document))
is_item (SessionOpened session) = is_number session
is_item (SessionEnded session result) = is_number session && is_result result
is_item (Digested repo path further) = is_id repo && (is_file_path path && is_further further)

-- an item of a hosted repository
abbrev pub IsHosted : Item → Type 0
IsHosted (HostedPut repo path blob print accepted) = Unit {0}
IsHosted (Faded repo path moment) = Unit {0}
IsHosted (Relisted repo path accepted) = Unit {0}
IsHosted (Removed repo path) = Unit {0}
IsHosted (CachedFile repo path blob print accepted) = ⊥
IsHosted (CachedDoc repo path checked document) = ⊥
IsHosted (SessionOpened session) = ⊥
IsHosted (SessionEnded session result) = ⊥
IsHosted (Digested repo path further) = ⊥

-- a text, a document's text, a fingerprint and a result as bytes
abbrev pub text_bytes : List ℕ → List ℕ
text_bytes t = to_be_bytes w16 (length t) ++ t

abbrev pub document_bytes : Document → List ℕ
document_bytes document = to_be_bytes w32 (length (text document)) ++ text document

abbrev pub further_bytes : Further → List ℕ
further_bytes f = f.sha256 ++ f.sha512

abbrev pub after_sha1 : List ℕ → Option Further → List ℕ
after_sha1 md5 None = md5
after_sha1 md5 (Some f) = md5 ++ further_bytes f

abbrev pub print_bytes : Recorded → List ℕ
print_bytes print = to_be_bytes w64 print.length ++ (print.digests.sha1 ++ after_sha1 print.digests.md5 print.digests.further)

abbrev pub result_bytes : SessionResult → List ℕ
result_bytes Aborted = 0 ∷ to_be_bytes w64 0
result_bytes (Done count) = 1 ∷ to_be_bytes w64 count

-- a place, and what else a file's item has
abbrev pub place_bytes : List ℕ → List ℕ → List ℕ
place_bytes repo path = text_bytes repo ++ text_bytes path

abbrev pub file_bytes : List ℕ → List ℕ → ℕ → Recorded → ℕ → List ℕ
file_bytes repo path blob print accepted = place_bytes repo path ++ (to_be_bytes w64 blob ++ (print_bytes print ++ to_be_bytes w64 accepted))

-- an item: its tag, and its fields
abbrev pub item_bytes : Item → List ℕ
item_bytes (HostedPut repo path blob print accepted) = 1 ∷ file_bytes repo path blob print accepted
item_bytes (Faded repo path moment) = 2 ∷ place_bytes repo path ++ to_be_bytes w64 moment
item_bytes (Relisted repo path accepted) = 3 ∷ place_bytes repo path ++ to_be_bytes w64 accepted
item_bytes (Removed repo path) = 4 ∷ place_bytes repo path
item_bytes (CachedFile repo path blob print accepted) = 5 ∷ file_bytes repo path blob print accepted
item_bytes (CachedDoc repo path checked document) = 6 ∷ place_bytes repo path ++ (to_be_bytes w64 checked ++ document_bytes document)
item_bytes (SessionOpened session) = 7 ∷ to_be_bytes w64 session
item_bytes (SessionEnded session result) = 8 ∷ to_be_bytes w64 session ++ result_bytes result
item_bytes (Digested repo path further) = 9 ∷ place_bytes repo path ++ further_bytes further

-- a change: the byte of its version, how many items it has, in 4 bytes, and the items; it is written in the second version
abbrev pub version_byte : Version → ℕ
version_byte First = 1
version_byte Second = 2

abbrev pub change_of : Version → List Item → List ℕ
change_of version items = version_byte version ∷ to_be_bytes w32 (length items) ++ flat_map item_bytes items

abbrev pub change_bytes : List Item → List ℕ
change_bytes items = change_of Second items

-- SHA-256 and SHA-512 are recorded, as they are since the second version
abbrev pub is_known_since : Version → Option Further → Bool
is_known_since First further = is_none further
is_known_since Second further = is_some further

abbrev pub is_second : Version → Bool
is_second First = false
is_second Second = true

-- an item of a version: a file without its SHA-256 and SHA-512 is of the first, and is given them in the second alone
abbrev pub is_of : Version → Item → Bool
is_of version (HostedPut repo path blob print accepted) = is_known_since version print.digests.further
is_of version (Faded repo path moment) = true
is_of version (Relisted repo path accepted) = true
is_of version (Removed repo path) = true
is_of version (CachedFile repo path blob print accepted) = is_known_since version print.digests.further
is_of version (CachedDoc repo path checked document) = true
is_of version (SessionOpened session) = true
is_of version (SessionEnded session result) = true
is_of version (Digested repo path further) = is_second version

abbrev pub are_of : Version → List Item → Bool
are_of version items = list_all (is_of version) items

-- items that make a change: each of its form, with fewer than 2^32 bytes in all
pub record IsChange (items : List Item) : Type 0 where
  pub form : IsTrue (list_all is_item items)
  pub size : length (change_bytes items) < 2 ^ 32
