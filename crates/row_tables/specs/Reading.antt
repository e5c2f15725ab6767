-- How items are read from bytes, from the left. A faulty field (one that is not there whole, a tag or a version that nobody
-- knows, a value out of its form) is told by the number of bytes that are left where it begins.
use Rattle.std.specs.Prelude.{ℕ, zero, suc, ◌-◌, Bool, ◌==◌, nat_lt, nat_le, if◌then◌else◌, List, [], ◌∷◌, length, take, drop, Option, Some, None, is_some, Result, Ok, Err, bytes_eq}
use Rattle.std.specs.Int.{Width, w16, w32, w64, byte_len, from_be_bytes}
use Rattle.mvn_coords.specs.Layout.{Directory}
use Rattle.mvn_digest.specs.declared.known.Further.{Further}
use Rattle.mvn_doc.specs.Reading.{reading}
use Rattle.mvn_metadata.specs.Document.{Document, settled}
use Rattle.mvn_metadata.specs.Written.{text}
use Rattle.repo_model.specs.declared.item.Item.{Item}
use Rattle.repo_model.specs.declared.item.Item.TheVariants.{HostedPut, Faded, Relisted, Removed, CachedFile, CachedDoc, SessionOpened, SessionEnded, Digested}
use Rattle.repo_model.specs.declared.print.Recorded.{Recorded}
use Rattle.repo_model.specs.declared.session.SessionResult.{SessionResult}
use Rattle.repo_model.specs.declared.session.SessionResult.TheVariants.{Aborted, Done}
use Rattle.row_tables.specs.Items.{is_id, is_file_path, directory_at, is_moment, is_count, is_number}
use Rattle.row_tables.specs.declared.version.Version.{Version}
use Rattle.row_tables.specs.declared.version.Version.TheVariants.{First, Second}

infixl 10 ◌>>=◌
abbrev pub ◌>>=◌ : {A B : Type 0} → Result A ℕ → (A → Result B ℕ) → Result B ℕ
(Ok x) >>= f = f x
(Err left) >>= f = Err left

-- a field: its value and the bytes after it, or how many bytes are left at the start of what is refused
abbrev pub Field : Type 0 → Type 0
Field A = List ℕ → Result (A × List ℕ) ℕ

-- a field of one form
abbrev pub of_form : {A : Type 0} → (A → Bool) → Field A → Field A
of_form is field bytes = field bytes >>= λ x. if is x.0 then Ok x else Err (length bytes)

-- one field and then another
abbrev pub then_at : {A B : Type 0} → Field A → Field B → Field (A × B)
then_at first second bytes = first bytes >>= λ x. second x.1 >>= λ y. Ok ((x.0, y.0), y.1)

-- a number, so many bytes, and bytes with their length in front
unfoldable pub number_at : Width → Field ℕ
number_at w bytes = if nat_lt (length bytes) (byte_len w) then Err (length bytes) else Ok (from_be_bytes w (take (byte_len w) bytes), drop (byte_len w) bytes)

unfoldable pub bytes_at : ℕ → Field (List ℕ)
bytes_at n bytes = if nat_lt (length bytes) n then Err (length bytes) else Ok (take n bytes, drop n bytes)

unfoldable pub counted_at : Width → Field (List ℕ)
counted_at w bytes = number_at w bytes >>= λ n. if nat_lt (length n.1) n.0 then Err (length bytes) else Ok (take n.0 n.1, drop n.0 n.1)

-- the fields of items
abbrev pub is_document_path : List ℕ → Bool
is_document_path path = is_some (directory_at path)

unfoldable pub id_at : Field (List ℕ)
id_at bytes = of_form is_id (counted_at w16) bytes

unfoldable pub file_path_at : Field (List ℕ)
file_path_at bytes = of_form is_file_path (counted_at w16) bytes

unfoldable pub document_path_at : Field (List ℕ)
document_path_at bytes = of_form is_document_path (counted_at w16) bytes

unfoldable pub moment_at : Field ℕ
moment_at bytes = of_form is_moment (number_at w64) bytes

unfoldable pub count_at : Field ℕ
count_at bytes = of_form is_count (number_at w64) bytes

unfoldable pub serial_at : Field ℕ
serial_at bytes = of_form is_number (number_at w64) bytes

unfoldable pub place_at : Field (List ℕ × List ℕ)
place_at bytes = then_at id_at file_path_at bytes

-- SHA-256 and SHA-512
abbrev pub further_of : List ℕ × List ℕ → Further
further_of f = record { sha256 = f.0; sha512 = f.1 }

unfoldable pub further_at : Field Further
further_at bytes = then_at (bytes_at 32) (bytes_at 64) bytes >>= λ x. Ok (further_of x.0, x.1)

-- what is recorded of a file's content, in the first version and since the second
abbrev pub short_of : ℕ × (List ℕ × List ℕ) → Recorded
short_of p = record { length = p.0; digests = record { sha1 = p.1.0; md5 = p.1.1; further = None } }

unfoldable pub short_at : Field Recorded
short_at bytes = then_at count_at (then_at (bytes_at 20) (bytes_at 16)) bytes >>= λ x. Ok (short_of x.0, x.1)

abbrev pub whole_of : ℕ × (List ℕ × (List ℕ × Further)) → Recorded
whole_of p = record { length = p.0; digests = record { sha1 = p.1.0; md5 = p.1.1.0; further = Some p.1.1.1 } }

unfoldable pub whole_at : Field Recorded
whole_at bytes = then_at count_at (then_at (bytes_at 20) (then_at (bytes_at 16) further_at)) bytes >>= λ x. Ok (whole_of x.0, x.1)

abbrev pub print_at : Version → Field Recorded
print_at First = short_at
print_at Second = whole_at

-- what a file's item has after its tag
abbrev pub FileFields : Type 0
FileFields = (List ℕ × List ℕ) × (ℕ × (Recorded × ℕ))

unfoldable pub file_at : Version → Field FileFields
file_at version bytes = then_at place_at (then_at serial_at (then_at (print_at version) moment_at)) bytes

-- the document of a text, as it is settled for a directory, where it is written so
abbrev pub as_settled : List ℕ → Directory → Result Document ℕ → Option Document
as_settled written directory (Err at) = None
as_settled written directory (Ok document) = if bytes_eq (text (settled document directory)) written then Some (settled document directory) else None

abbrev pub kept_in : Option Directory → List ℕ → Option Document
kept_in None written = None
kept_in (Some directory) written = as_settled written directory (reading written)

abbrev pub or_refused : ℕ → List ℕ → Option Document → Result (Document × List ℕ) ℕ
or_refused left rest None = Err left
or_refused left rest (Some document) = Ok (document, rest)

-- a document's text of so many bytes, and one with its length in front of it
unfoldable pub written_at : List ℕ → ℕ → Field Document
written_at path n bytes = bytes_at n bytes >>= λ t. if nat_le (length t.0) 4100000 then or_refused (length bytes) t.1 (kept_in (directory_at path) t.0) else Err (length bytes)

unfoldable pub document_at : List ℕ → Field Document
document_at path bytes = number_at w32 bytes >>= λ n. written_at path n.0 n.1

-- what a document's item has after its tag
unfoldable pub kept_at : Field ((List ℕ × List ℕ) × (ℕ × Document))
kept_at bytes = then_at id_at document_path_at bytes >>= λ p. then_at moment_at (document_at p.0.1) p.1 >>= λ d. Ok ((p.0, d.0), d.1)

-- 0 and a count of 0, or 1 and a count
unfoldable pub result_at : Field SessionResult
result_at [] = Err 0
result_at (zero ∷ rest) = of_form (λ n. n == 0) (number_at w64) rest >>= λ n. Ok (Aborted, n.1)
result_at (suc zero ∷ rest) = count_at rest >>= λ n. Ok (Done n.0, n.1)
result_at (suc (suc tag) ∷ rest) = Err (suc (length rest))

abbrev pub hosted_of : FileFields → Item
hosted_of f = HostedPut f.0.0 f.0.1 f.1.0 f.1.1.0 f.1.1.1

abbrev pub cached_of : FileFields → Item
cached_of f = CachedFile f.0.0 f.0.1 f.1.0 f.1.1.0 f.1.1.1

-- SHA-256 and SHA-512 of a file, which are given in the second version alone
unfoldable pub digested_at : Version → Field Item
digested_at First rest = Err (suc (length rest))
digested_at Second rest = then_at place_at further_at rest >>= λ x. Ok (Digested x.0.0.0 x.0.0.1 x.0.1, x.1)

-- an item of a version by its tag
unfoldable pub item_of : Version → ℕ → List ℕ → Result (Item × List ℕ) ℕ
item_of version tag rest =
    if tag == 1 then (file_at version rest >>= λ x. Ok (hosted_of x.0, x.1))
    else (if tag == 2 then (then_at place_at moment_at rest >>= λ x. Ok (Faded x.0.0.0 x.0.0.1 x.0.1, x.1))
    else (if tag == 3 then (then_at place_at moment_at rest >>= λ x. Ok (Relisted x.0.0.0 x.0.0.1 x.0.1, x.1))
    else (if tag == 4 then (place_at rest >>= λ x. Ok (Removed x.0.0 x.0.1, x.1))
    else (if tag == 5 then (file_at version rest >>= λ x. Ok (cached_of x.0, x.1))
    else (if tag == 6 then (kept_at rest >>= λ x. Ok (CachedDoc x.0.0.0 x.0.0.1 x.0.1.0 x.0.1.1, x.1))
    else (if tag == 7 then (serial_at rest >>= λ x. Ok (SessionOpened x.0, x.1))
    else (if tag == 8 then (then_at serial_at result_at rest >>= λ x. Ok (SessionEnded x.0.0 x.0.1, x.1))
    else (if tag == 9 then digested_at version rest
    else Err (suc (length rest))))))))))

unfoldable pub item_at : Version → Field Item
item_at version [] = Err 0
item_at version (tag ∷ rest) = item_of version tag rest

unfoldable pub items_at : Version → ℕ → Field (List Item)
items_at version zero bytes = Ok ([], bytes)
items_at version (suc n) bytes = item_at version bytes >>= λ i. items_at version n i.1 >>= λ is. Ok (i.0 ∷ is.0, is.1)

-- a change: its version, which is 1 or 2, how many items it has, and these
unfoldable pub counted_items_at : Version → Field (List Item)
counted_items_at version bytes = number_at w32 bytes >>= λ n. items_at version n.0 n.1

unfoldable pub change_at : Field (List Item)
change_at [] = Err 0
change_at (version ∷ rest) =
    if version == 1 then counted_items_at First rest
    else (if version == 2 then counted_items_at Second rest else Err (suc (length rest)))

-- the change that bytes begin with and how many of them it takes; or where the first field begins that is refused. A change
-- has fewer than 2^32 bytes, so no more of them are looked at.
abbrev pub placed : ℕ → Result (List Item × List ℕ) ℕ → Result (List Item × ℕ) ℕ
placed seen (Ok x) = Ok (x.0, seen - length x.1)
placed seen (Err left) = Err (seen - left)

abbrev pub taken : List ℕ → Result (List Item × ℕ) ℕ
taken bytes = let seen = take 4294967295 bytes in placed (length seen) (change_at seen)
