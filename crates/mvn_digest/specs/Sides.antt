-- The text of a side file (Maven 2 repository layout): a digest in hexadecimal (RFC 4648, section 8), as it is written and as it is read, also after the name and the ` = ` that checksum programs write before a digest.
use Rattle.std.specs.Prelude.{ℕ, Bool, false, not, ◌||◌, ◌==◌, nat_eq, if◌then◌else◌, List, [], ◌∷◌, filter, find, Option, None, option_and_then, codes}
use Rattle.std.specs.List.{last_or, list_all, slice_split, starts_with}
use Rattle.std.specs.Result.{result_ok}
use Rattle.hex.specs.Hex.{decode_sized}
use Rattle.mvn_coords.specs.FileName.{is_filled}
use Rattle.mvn_coords.specs.declared.fault.Side.{Side}
use Rattle.mvn_coords.specs.declared.fault.Side.TheVariants as side
use Rattle.mvn_digest.specs.declared.digests.Digest.{Digest}
use Rattle.mvn_digest.specs.declared.digests.Digest.TheVariants.{Sha1, Md5, Sha256, Sha512}
use Rattle.mvn_digest.specs.declared.digests.Digests.{Digests}
use Rattle.mvn_digest.specs.Hex.{hex_text}

-- the digest of a side
abbrev pub side_of : Digests → Side → List ℕ
side_of digests side.Sha1 = digests.sha1
side_of digests side.Md5 = digests.md5
side_of digests side.Sha256 = digests.sha256
side_of digests side.Sha512 = digests.sha512

-- the text of a side file as it is written
abbrev pub side_text : Side → Digests → List ℕ
side_text side digests = hex_text (side_of digests side)

-- a digest's bytes, and its side
abbrev pub bytes_in : Digest → List ℕ
bytes_in (Sha1 bytes) = bytes
bytes_in (Md5 bytes) = bytes
bytes_in (Sha256 bytes) = bytes
bytes_in (Sha512 bytes) = bytes

abbrev pub side_in : Digest → Side
side_in (Sha1 bytes) = side.Sha1
side_in (Md5 bytes) = side.Md5
side_in (Sha256 bytes) = side.Sha256
side_in (Sha512 bytes) = side.Sha512

-- blank, tab and CR
abbrev pub is_blank : ℕ → Bool
is_blank b = (b == 32) || (b == 9) || (b == 13)

-- the first line, up to its LF, that has more than blanks
abbrev pub is_blank_line : List ℕ → Bool
is_blank_line line = list_all is_blank line

abbrev pub first_line : List ℕ → Option (List ℕ)
first_line text = find (λ line. not (is_blank_line line)) (slice_split (λ b. b == 10) text)

-- the first and the last word of a line
abbrev pub first_word : List ℕ → Option (List ℕ)
first_word line = find is_filled (slice_split is_blank line)

abbrev pub last_word : List ℕ → Option (List ℕ)
last_word line = last_or None (filter is_filled (slice_split is_blank line))

-- somewhere in the line stands ` = `
abbrev pub has_sign : List ℕ → Bool
has_sign [] = false
has_sign (b ∷ bs) = starts_with nat_eq (b ∷ bs) (codes " = ") || has_sign bs

-- the word that is to be the digest
abbrev pub digest_word : List ℕ → Option (List ℕ)
digest_word line = if has_sign line then last_word line else first_word line

-- the digest that a word writes with two hexadecimal digits of either case a byte, 20 bytes of SHA-1, 16 of MD5, 32 of SHA-256 or 64 of SHA-512
abbrev pub digest_size : Side → ℕ
digest_size side.Sha1 = 20
digest_size side.Md5 = 16
digest_size side.Sha256 = 32
digest_size side.Sha512 = 64

abbrev pub digest_in : Side → List ℕ → Option (List ℕ)
digest_in side word = result_ok (decode_sized word (digest_size side))

-- the digest that the text of a side file says, if it says one
abbrev pub read_side : Side → List ℕ → Option (List ℕ)
read_side side text = option_and_then (digest_in side) (option_and_then digest_word (first_line text))
