-- The fields of items: what is read was written so, and what was written so is read again.
use Rattle.std.proofs.Common.{◌≡◌, ℕ, ◌^◌, ◌<◌, Bool, true, false, ◌&&◌, List, ◌++◌, length, Ok, ap, subst, arith}
use Rattle.std.specs.Prelude.{◌==◌, nat_lt, nat_le}
use Rattle.std.specs.Int.{w16, w64, to_be_bytes}
use Rattle.std.proofs.lemmas.Bool.Decides.{nat_tests}
use Rattle.std.specs.Prelude.{Option, Some, None}
use Rattle.mvn_digest.specs.declared.known.Further.{Further}
use Rattle.repo_model.specs.declared.print.Recorded.{Recorded}
use Rattle.row_tables.specs.Items.{is_id, is_file_path, is_moment, is_count, is_number, is_further, is_print, is_known_since, text_bytes, place_bytes, further_bytes, print_bytes}
use Rattle.row_tables.specs.declared.version.Version.{Version}
use Rattle.row_tables.specs.declared.version.Version.TheVariants.{First, Second}
use Rattle.row_tables.specs.Reading.{◌>>=◌, then_at, bytes_at, id_at, file_path_at, is_document_path, document_path_at, moment_at, count_at, serial_at, place_at, further_of, further_at, short_of, short_at, whole_of, whole_at, print_at, FileFields, file_at}
use Rattle.repo_rows.proofs.Ascii.{both, id_short, file_path_short, document_path_short}
use Rattle.repo_rows.proofs.FieldLaws.{IsBytes, bind_ok, ok_is, Taken, IsField, then_field, wide16, wide64, number_field, bytes_field, counted_field}

-- ---- numbers and texts

pub count_low : (n : ℕ) → is_count n ≡ true → n < 2 ^ 64
count_low n is = grind (arith, nat_tests)

pub moment_low : (n : ℕ) → is_moment n ≡ true → n < 2 ^ 64
moment_low n is = grind (arith, nat_tests)

pub serial_low : (n : ℕ) → is_number n ≡ true → n < 2 ^ 64
serial_low n is = count_low n (both (nat_lt 0 n) (nat_le n 9223372036854775807) is).1

pub count_field : IsField (to_be_bytes w64) is_count count_at
unfolding count_at
count_field = number_field w64 (2 ^ 64) wide64 is_count count_low

pub moment_field : IsField (to_be_bytes w64) is_moment moment_at
unfolding moment_at
moment_field = number_field w64 (2 ^ 64) wide64 is_moment moment_low

pub serial_field : IsField (to_be_bytes w64) is_number serial_at
unfolding serial_at
serial_field = number_field w64 (2 ^ 64) wide64 is_number serial_low

pub id_field : IsField text_bytes is_id id_at
unfolding id_at
id_field = counted_field w16 (2 ^ 16) wide16 is_id id_short

pub file_path_field : IsField text_bytes is_file_path file_path_at
unfolding file_path_at
file_path_field = counted_field w16 (2 ^ 16) wide16 is_file_path file_path_short

pub document_path_field : IsField text_bytes is_document_path document_path_at
unfolding document_path_at
document_path_field = counted_field w16 (2 ^ 16) wide16 is_document_path document_path_short

abbrev pub spell_place : List ℕ × List ℕ → List ℕ
spell_place p = place_bytes p.0 p.1

abbrev pub is_place : List ℕ × List ℕ → Bool
is_place p = is_id p.0 && is_file_path p.1

pub place_field : IsField spell_place is_place place_at
unfolding place_at
place_field = then_field text_bytes is_id id_at text_bytes is_file_path file_path_at id_field file_path_field

-- ---- fingerprints and files

abbrev pub spell_parts : ℕ × (List ℕ × List ℕ) → List ℕ
spell_parts p = to_be_bytes w64 p.0 ++ (p.1.0 ++ p.1.1)

abbrev pub are_parts : ℕ × (List ℕ × List ℕ) → Bool
are_parts p = is_count p.0 && ((length p.1.0 == 20) && (length p.1.1 == 16))

pub parts_field : IsField spell_parts are_parts (then_at count_at (then_at (bytes_at 20) (bytes_at 16)))
parts_field =
    then_field (to_be_bytes w64) is_count count_at _ _ (then_at (bytes_at 20) (bytes_at 16)) count_field
    (then_field (λ l. l) (λ l. length l == 20) (bytes_at 20) (λ l. l) (λ l. length l == 16) (bytes_at 16) (bytes_field 20) (bytes_field 16))

pub further_field : IsField further_bytes is_further further_at
unfolding further_at
further_field =
    let pair = then_field (λ l. l) (λ l. length l == 32) (bytes_at 32) (λ l. l) (λ l. length l == 64) (bytes_at 64) (bytes_field 32) (bytes_field 64) in record {
      takes = λ bytes x are is.
          let a = bind_ok (then_at (bytes_at 32) (bytes_at 64) bytes) (λ y. Ok (further_of y.0, y.1)) x is in
          let h = pair.takes bytes a.0 are a.1 in
          subst (Taken further_bytes is_further bytes) (ok_is (further_of a.0.0, a.0.1) x a.2) (record { parts = h.parts; left = h.left; fits = h.fits });
      again = λ f rest is. ap (λ r. r >>= λ y. Ok (further_of y.0, y.1)) (pair.again (f.sha256, f.sha512) rest is);
    }

-- what is recorded of a content in a version
abbrev pub is_print_of : Version → Recorded → Bool
is_print_of version p = is_print p && is_known_since version p.digests.further

pub short_takes : (bytes : List ℕ) (x : Recorded × List ℕ) → IsBytes bytes → short_at bytes ≡ Ok x → Taken print_bytes (is_print_of First) bytes x
unfolding short_at
short_takes bytes x are is =
    let a = bind_ok (then_at count_at (then_at (bytes_at 20) (bytes_at 16)) bytes) (λ y. Ok (short_of y.0, y.1)) x is in
    let h = parts_field.takes bytes a.0 are a.1 in
    subst (Taken print_bytes (is_print_of First) bytes) (ok_is (short_of a.0.0, a.0.1) x a.2) (record { parts = h.parts; left = h.left; fits = λ i. h.fits i && true })

abbrev pub made : ℕ → List ℕ → List ℕ → Option Further → Recorded
made n sha1 md5 further = record { length = n; digests = record { sha1 = sha1; md5 = md5; further = further } }

pub short_again : (n : ℕ) (sha1 md5 : List ℕ) (further : Option Further) (rest : List ℕ) → is_print_of First (made n sha1 md5 further) ≡ true
    → short_at (print_bytes (made n sha1 md5 further) ++ rest) ≡ Ok (made n sha1 md5 further, rest)
unfolding short_at
short_again n sha1 md5 None rest is =
    ap (λ r. r >>= λ y. Ok (short_of y.0, y.1)) (parts_field.again (n, (sha1, md5)) rest (both (is_print (made n sha1 md5 None)) true is).0)
short_again n sha1 md5 (Some f) rest is = absurd (let p = both (is_print (made n sha1 md5 (Some f))) false is in cc)

abbrev pub spell_whole : ℕ × (List ℕ × (List ℕ × Further)) → List ℕ
spell_whole p = to_be_bytes w64 p.0 ++ (p.1.0 ++ (p.1.1.0 ++ further_bytes p.1.1.1))

abbrev pub is_whole : ℕ × (List ℕ × (List ℕ × Further)) → Bool
is_whole p = is_count p.0 && ((length p.1.0 == 20) && ((length p.1.1.0 == 16) && is_further p.1.1.1))

pub whole_field : IsField spell_whole is_whole (then_at count_at (then_at (bytes_at 20) (then_at (bytes_at 16) further_at)))
whole_field =
    then_field (to_be_bytes w64) is_count count_at _ _ (then_at (bytes_at 20) (then_at (bytes_at 16) further_at)) count_field
    (then_field (λ l. l) (λ l. length l == 20) (bytes_at 20) _ _ (then_at (bytes_at 16) further_at) (bytes_field 20)
    (then_field (λ l. l) (λ l. length l == 16) (bytes_at 16) further_bytes is_further further_at (bytes_field 16) further_field))

pub whole_takes : (bytes : List ℕ) (x : Recorded × List ℕ) → IsBytes bytes → whole_at bytes ≡ Ok x → Taken print_bytes (is_print_of Second) bytes x
unfolding whole_at
whole_takes bytes x are is =
    let a = bind_ok (then_at count_at (then_at (bytes_at 20) (then_at (bytes_at 16) further_at)) bytes) (λ y. Ok (whole_of y.0, y.1)) x is in
    let h = whole_field.takes bytes a.0 are a.1 in
    subst (Taken print_bytes (is_print_of Second) bytes) (ok_is (whole_of a.0.0, a.0.1) x a.2) (record { parts = h.parts; left = h.left; fits = λ i. h.fits i && true })

pub whole_again : (n : ℕ) (sha1 md5 : List ℕ) (further : Option Further) (rest : List ℕ) → is_print_of Second (made n sha1 md5 further) ≡ true
    → whole_at (print_bytes (made n sha1 md5 further) ++ rest) ≡ Ok (made n sha1 md5 further, rest)
unfolding whole_at
whole_again n sha1 md5 None rest is = absurd (let p = both (is_print (made n sha1 md5 None)) false is in cc)
whole_again n sha1 md5 (Some f) rest is =
    ap (λ r. r >>= λ y. Ok (whole_of y.0, y.1)) (whole_field.again (n, (sha1, (md5, f))) rest (both (is_print (made n sha1 md5 (Some f))) true is).0)

pub print_field : (version : Version) → IsField print_bytes (is_print_of version) (print_at version)
print_field First = record { takes = short_takes; again = λ p rest is. short_again p.length p.digests.sha1 p.digests.md5 p.digests.further rest is }
print_field Second = record { takes = whole_takes; again = λ p rest is. whole_again p.length p.digests.sha1 p.digests.md5 p.digests.further rest is }

abbrev pub spell_file : FileFields → List ℕ
spell_file f = spell_place f.0 ++ (to_be_bytes w64 f.1.0 ++ (print_bytes f.1.1.0 ++ to_be_bytes w64 f.1.1.1))

abbrev pub is_file : Version → FileFields → Bool
is_file version f = is_place f.0 && (is_number f.1.0 && (is_print_of version f.1.1.0 && is_moment f.1.1.1))

pub file_field : (version : Version) → IsField spell_file (is_file version) (file_at version)
unfolding file_at
file_field version =
    then_field spell_place is_place place_at _ _ (then_at serial_at (then_at (print_at version) moment_at)) place_field
    (then_field (to_be_bytes w64) is_number serial_at _ _ (then_at (print_at version) moment_at) serial_field
    (then_field print_bytes (is_print_of version) (print_at version) (to_be_bytes w64) is_moment moment_at (print_field version) moment_field))

abbrev pub spell_digested : (List ℕ × List ℕ) × Further → List ℕ
spell_digested x = spell_place x.0 ++ further_bytes x.1

abbrev pub are_digests : (List ℕ × List ℕ) × Further → Bool
are_digests x = is_place x.0 && is_further x.1

pub digested_field : IsField spell_digested are_digests (then_at place_at further_at)
digested_field = then_field spell_place is_place place_at further_bytes is_further further_at place_field further_field

pub dated_field : IsField (λ (x : (List ℕ × List ℕ) × ℕ). spell_place x.0 ++ to_be_bytes w64 x.1) (λ (x : (List ℕ × List ℕ) × ℕ). is_place x.0 && is_moment x.1) (then_at place_at moment_at)
dated_field = then_field spell_place is_place place_at (to_be_bytes w64) is_moment moment_at place_field moment_field
