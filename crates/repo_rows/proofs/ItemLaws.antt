-- Items and changes: what is read was written so, and what was written so is read again.
use Rattle.std.proofs.Common.{◌≡◌, ℕ, zero, suc, ◌^◌, ◌<◌, Bool, true, false, cond, ◌&&◌, List, [], ◌∷◌, ◌++◌, length, Ok, Err, refl, sym, ap, subst, ◌∙◌, append_assoc, arith}
use Rattle.std.specs.Prelude.{◌==◌}
use Rattle.std.specs.List.{list_all, flat_map}
use Rattle.std.specs.Int.{w32, w64, to_be_bytes}
use Rattle.std.proofs.lemmas.Bool.Decides.{nat_tests}
use Rattle.mvn_digest.specs.declared.known.Further.{Further}
use Rattle.mvn_metadata.specs.Document.{Document}
use Rattle.repo_model.specs.declared.item.Item.{Item}
use Rattle.repo_model.specs.declared.item.Item.TheVariants.{HostedPut, Faded, Relisted, Removed, CachedFile, CachedDoc, SessionOpened, SessionEnded, Digested}
use Rattle.repo_model.specs.declared.session.SessionResult.{SessionResult}
use Rattle.repo_model.specs.declared.session.SessionResult.TheVariants.{Aborted, Done}
use Rattle.row_tables.specs.Items.{is_id, is_file_path, is_moment, is_number, is_further, is_print, is_kept_at, is_result, is_item, is_known_since, is_of, are_of, text_bytes, place_bytes, document_bytes, result_bytes, item_bytes, version_byte, change_of}
use Rattle.row_tables.specs.declared.version.Version.{Version}
use Rattle.row_tables.specs.declared.version.Version.TheVariants.{First, Second}
use Rattle.row_tables.specs.Reading.{◌>>=◌, Field, then_at, number_at, id_at, is_document_path, document_path_at, moment_at, count_at, serial_at, place_at, further_at, FileFields, file_at, document_at, kept_at, result_at, hosted_of, cached_of, digested_at, item_of, item_at, items_at, counted_items_at, change_at}
use Rattle.repo_rows.proofs.Ascii.{both}
use Rattle.repo_rows.proofs.DocumentLaws.{document_field}
use Rattle.repo_rows.proofs.FieldLaws.{IsBytes, bind_ok, ok_is, Taken, IsField, then_field, wide32, wide64, number_takes, number_again, number_field}
use Rattle.repo_rows.proofs.FileLaws.{count_field, moment_field, serial_field, id_field, document_path_field, spell_place, is_place, place_field, spell_file, is_file, file_field, spell_digested, are_digests, digested_field, dated_field}

-- ---- results

zero_low : (n : ℕ) → (n == 0) ≡ true → n < 2 ^ 64
zero_low n is = grind (arith, nat_tests)

zero_is : (n : ℕ) → (n == 0) ≡ true → n ≡ 0
zero_is n is = grind (arith, nat_tests)

tail_bytes : (b : ℕ) (bytes : List ℕ) → IsBytes (b ∷ bytes) → IsBytes bytes
tail_bytes b bytes are i = are (suc i)

result_takes : (bytes : List ℕ) (x : SessionResult × List ℕ) → IsBytes bytes → result_at bytes ≡ Ok x → Taken result_bytes is_result bytes x
unfolding result_at
result_takes [] x are is = absurd cc
result_takes (zero ∷ rest) x are is =
    let zeros = number_field w64 (2 ^ 64) wide64 (λ n. n == 0) zero_low in
    let a = bind_ok _ (λ n. Ok (Aborted, n.1)) x is in
    let h = zeros.takes rest a.0 (tail_bytes 0 rest are) a.1 in
    subst (Taken result_bytes is_result (0 ∷ rest)) (ok_is (Aborted, a.0.1) x a.2) (record {
      parts = ap (λ l. 0 ∷ l) (h.parts ∙ ap (λ n. to_be_bytes w64 n ++ a.0.1) (zero_is a.0.0 h.fits));
      left = h.left;
      fits = refl;
    })
result_takes (suc zero ∷ rest) x are is =
    let a = bind_ok (count_at rest) (λ n. Ok (Done n.0, n.1)) x is in
    let h = count_field.takes rest a.0 (tail_bytes 1 rest are) a.1 in
    subst (Taken result_bytes is_result (1 ∷ rest)) (ok_is (Done a.0.0, a.0.1) x a.2) (record { parts = ap (λ l. 1 ∷ l) h.parts; left = h.left; fits = h.fits })
result_takes (suc (suc tag) ∷ rest) x are is = absurd cc

result_again : (how : SessionResult) (rest : List ℕ) → is_result how ≡ true → result_at (result_bytes how ++ rest) ≡ Ok (how, rest)
unfolding result_at
result_again Aborted rest is =
    let zeros = number_field w64 (2 ^ 64) wide64 (λ n. n == 0) zero_low in
    ap (λ r. r >>= λ n. Ok (Aborted, n.1)) (zeros.again 0 rest refl)
result_again (Done count) rest is = ap (λ r. r >>= λ n. Ok (Done n.0, n.1)) (count_field.again count rest is)

result_field : IsField result_bytes is_result result_at
result_field = record { takes = result_takes; again = result_again }

ended_field : IsField (λ (x : ℕ × SessionResult). to_be_bytes w64 x.0 ++ result_bytes x.1) (λ (x : ℕ × SessionResult). is_number x.0 && is_result x.1) (then_at serial_at result_at)
ended_field = then_field (to_be_bytes w64) is_number serial_at result_bytes is_result result_at serial_field result_field

-- ---- documents

abbrev KeptFields : Type 0
KeptFields = (List ℕ × List ℕ) × (ℕ × Document)

abbrev spell_kept : KeptFields → List ℕ
spell_kept k = place_bytes k.0.0 k.0.1 ++ (to_be_bytes w64 k.1.0 ++ document_bytes k.1.1)

abbrev is_kept : KeptFields → Bool
is_kept k = (is_id k.0.0 && is_document_path k.0.1) && (is_moment k.1.0 && is_kept_at k.0.1 k.1.1)

where_field : IsField spell_place (λ (p : List ℕ × List ℕ). is_id p.0 && is_document_path p.1) (then_at id_at document_path_at)
where_field = then_field text_bytes is_id id_at text_bytes is_document_path document_path_at id_field document_path_field

what_field : (path : List ℕ) → IsField (λ (x : ℕ × Document). to_be_bytes w64 x.0 ++ document_bytes x.1) (λ (x : ℕ × Document). is_moment x.0 && is_kept_at path x.1) (then_at moment_at (document_at path))
what_field path = then_field (to_be_bytes w64) is_moment moment_at document_bytes (is_kept_at path) (document_at path) moment_field (document_field path)

kept_field : IsField spell_kept is_kept kept_at
unfolding kept_at
kept_field = record {
  takes = λ bytes x are is.
      let a = bind_ok (then_at id_at document_path_at bytes) (λ p. then_at moment_at (document_at p.0.1) p.1 >>= λ d. Ok ((p.0, d.0), d.1)) x is in
      let b = bind_ok (then_at moment_at (document_at a.0.0.1) a.0.1) (λ d. Ok ((a.0.0, d.0), d.1)) x a.2 in
      let h = where_field.takes bytes a.0 are a.1 in
      let k = (what_field a.0.0.1).takes a.0.1 b.0 h.left b.1 in
      let made : KeptFields × List ℕ = ((a.0.0, b.0.0), b.0.1) in
      let all : Taken spell_kept is_kept bytes made = record {
        parts = h.parts ∙ ap (λ l. spell_place a.0.0 ++ l) k.parts ∙ sym (append_assoc (spell_place a.0.0) (to_be_bytes w64 b.0.0.0 ++ document_bytes b.0.0.1) b.0.1);
        left = k.left;
        fits = λ i. h.fits i && k.fits i;
      } in
      subst (Taken spell_kept is_kept bytes) (ok_is made x b.2) all;
  again = λ f rest is.
      let parts = both _ (is_moment f.1.0 && is_kept_at f.0.1 f.1.1) is in
      ap kept_at (append_assoc (spell_place f.0) (to_be_bytes w64 f.1.0 ++ document_bytes f.1.1) rest)
      ∙ ap (λ r. r >>= λ p. then_at moment_at (document_at p.0.1) p.1 >>= λ d. Ok ((p.0, d.0), d.1)) (where_field.again f.0 ((to_be_bytes w64 f.1.0 ++ document_bytes f.1.1) ++ rest) parts.0)
      ∙ ap (λ r. r >>= λ d. Ok ((f.0, d.0), d.1)) ((what_field f.0.1).again f.1 rest parts.1);
}

-- ---- items

tag_is : (tag n : ℕ) → (tag == n) ≡ true → tag ≡ n
tag_is tag n is = grind (arith, nat_tests)

assoc : (a b c : Bool) → a && (b && c) ≡ (a && b) && c
assoc true b c = refl
assoc false b c = refl

-- an item of a version
abbrev is_item_of : Version → Item → Bool
is_item_of version item = is_item item && is_of version item

plain_form : (b : Bool) → b && true ≡ b
plain_form true = refl
plain_form false = refl

module _ (version : Version) where
  -- an item made of the fields after a tag
  made_takes : {A : Type 0} (tag : ℕ) (make : A → Item) (spell : A → List ℕ) (form : A → Bool) (field : Field A) → IsField spell form field
      → ((a : A) → item_bytes (make a) ≡ tag ∷ spell a) → ((a : A) → is_item_of version (make a) ≡ form a)
      → (rest : List ℕ) (x : Item × List ℕ) → IsBytes rest → (field rest >>= λ y. Ok (make y.0, y.1)) ≡ Ok x → Taken item_bytes (is_item_of version) (tag ∷ rest) x
  made_takes tag make spell form field is written formed rest x are read =
      let a = bind_ok (field rest) (λ y. Ok (make y.0, y.1)) x read in
      let h = is.takes rest a.0 are a.1 in
      subst (Taken item_bytes (is_item_of version) (tag ∷ rest)) (ok_is (make a.0.0, a.0.1) x a.2) (record {
        parts = ap (λ l. tag ∷ l) h.parts ∙ ap (λ l. l ++ a.0.1) (sym (written a.0.0));
        left = h.left;
        fits = formed a.0.0 ∙ h.fits;
      })

  regrouped : (a b c d m k : Bool) → (a && (b && (c && (d && m)))) && k ≡ (a && b) && (c && ((d && k) && m))
  regrouped false b c d m k = refl
  regrouped true false c d m k = refl
  regrouped true true false d m k = refl
  regrouped true true true false m k = refl
  regrouped true true true true true true = refl
  regrouped true true true true true false = refl
  regrouped true true true true false true = refl
  regrouped true true true true false false = refl

  file_form : (f : FileFields) → (is_id f.0.0 && (is_file_path f.0.1 && (is_number f.1.0 && (is_print f.1.1.0 && is_moment f.1.1.1)))) && is_known_since version f.1.1.0.digests.further ≡ is_file version f
  file_form f = regrouped (is_id f.0.0) (is_file_path f.0.1) (is_number f.1.0) (is_print f.1.1.0) (is_moment f.1.1.1) (is_known_since version f.1.1.0.digests.further)

  dated_form : (x : (List ℕ × List ℕ) × ℕ) → (is_id x.0.0 && (is_file_path x.0.1 && is_moment x.1)) && true ≡ is_place x.0 && is_moment x.1
  dated_form x = plain_form _ ∙ assoc (is_id x.0.0) (is_file_path x.0.1) (is_moment x.1)

  kept_form : (k : KeptFields) → (is_id k.0.0 && (is_document_path k.0.1 && (is_moment k.1.0 && is_kept_at k.0.1 k.1.1))) && true ≡ is_kept k
  kept_form k = plain_form _ ∙ assoc (is_id k.0.0) (is_document_path k.0.1) _

digested_form : (x : (List ℕ × List ℕ) × Further) → (is_id x.0.0 && (is_file_path x.0.1 && is_further x.1)) && true ≡ are_digests x
digested_form x = plain_form _ ∙ assoc (is_id x.0.0) (is_file_path x.0.1) (is_further x.1)

digested_takes : (version : Version) (rest : List ℕ) (x : Item × List ℕ) → IsBytes rest → digested_at version rest ≡ Ok x → Taken item_bytes (is_item_of version) (9 ∷ rest) x
unfolding digested_at
digested_takes First rest x are is = absurd cc
digested_takes Second rest x are is =
    made_takes Second 9 (λ (x : (List ℕ × List ℕ) × Further). Digested x.0.0 x.0.1 x.1) spell_digested are_digests (then_at place_at further_at) digested_field (λ f. refl) digested_form rest x are is

module _ (version : Version) where
  abbrev IsTaken : ℕ → List ℕ → Item × List ℕ → Type 0
  IsTaken tag rest x = Taken item_bytes (is_item_of version) (tag ∷ rest) x

  -- the tests of tags, one after the other
  item_takes_by : (tag : ℕ) (rest : List ℕ) (x : Item × List ℕ) (t1 t2 t3 t4 t5 t6 t7 t8 t9 : Bool) → IsBytes rest
      → (tag == 1) ≡ t1 → (tag == 2) ≡ t2 → (tag == 3) ≡ t3 → (tag == 4) ≡ t4 → (tag == 5) ≡ t5 → (tag == 6) ≡ t6 → (tag == 7) ≡ t7 → (tag == 8) ≡ t8 → (tag == 9) ≡ t9
      → cond t1 (file_at version rest >>= λ x. Ok (hosted_of x.0, x.1))
      (cond t2 (then_at place_at moment_at rest >>= λ x. Ok (Faded x.0.0.0 x.0.0.1 x.0.1, x.1))
      (cond t3 (then_at place_at moment_at rest >>= λ x. Ok (Relisted x.0.0.0 x.0.0.1 x.0.1, x.1))
      (cond t4 (place_at rest >>= λ x. Ok (Removed x.0.0 x.0.1, x.1))
      (cond t5 (file_at version rest >>= λ x. Ok (cached_of x.0, x.1))
      (cond t6 (kept_at rest >>= λ x. Ok (CachedDoc x.0.0.0 x.0.0.1 x.0.1.0 x.0.1.1, x.1))
      (cond t7 (serial_at rest >>= λ x. Ok (SessionOpened x.0, x.1))
      (cond t8 (then_at serial_at result_at rest >>= λ x. Ok (SessionEnded x.0.0 x.0.1, x.1))
      (cond t9 (digested_at version rest) (Err (suc (length rest))))))))))) ≡ Ok x
      → IsTaken tag rest x
  item_takes_by tag rest x true t2 t3 t4 t5 t6 t7 t8 t9 are one two three four five six seven eight nine is =
      subst (λ t. IsTaken t rest x) (sym (tag_is tag 1 one)) (made_takes version 1 hosted_of spell_file (is_file version) (file_at version) (file_field version) (λ f. refl) (file_form version) rest x are is)
  item_takes_by tag rest x false true t3 t4 t5 t6 t7 t8 t9 are one two three four five six seven eight nine is =
      subst (λ t. IsTaken t rest x) (sym (tag_is tag 2 two)) (made_takes version 2 (λ (x : (List ℕ × List ℕ) × ℕ). Faded x.0.0 x.0.1 x.1) _ _ (then_at place_at moment_at) dated_field (λ f. refl) (dated_form version) rest x are is)
  item_takes_by tag rest x false false true t4 t5 t6 t7 t8 t9 are one two three four five six seven eight nine is =
      subst (λ t. IsTaken t rest x) (sym (tag_is tag 3 three)) (made_takes version 3 (λ (x : (List ℕ × List ℕ) × ℕ). Relisted x.0.0 x.0.1 x.1) _ _ (then_at place_at moment_at) dated_field (λ f. refl) (dated_form version) rest x are is)
  item_takes_by tag rest x false false false true t5 t6 t7 t8 t9 are one two three four five six seven eight nine is =
      subst (λ t. IsTaken t rest x) (sym (tag_is tag 4 four)) (made_takes version 4 (λ (p : List ℕ × List ℕ). Removed p.0 p.1) spell_place is_place place_at place_field (λ f. refl) (λ f. plain_form _) rest x are is)
  item_takes_by tag rest x false false false false true t6 t7 t8 t9 are one two three four five six seven eight nine is =
      subst (λ t. IsTaken t rest x) (sym (tag_is tag 5 five)) (made_takes version 5 cached_of spell_file (is_file version) (file_at version) (file_field version) (λ f. refl) (file_form version) rest x are is)
  item_takes_by tag rest x false false false false false true t7 t8 t9 are one two three four five six seven eight nine is =
      subst (λ t. IsTaken t rest x) (sym (tag_is tag 6 six)) (made_takes version 6 (λ (k : KeptFields). CachedDoc k.0.0 k.0.1 k.1.0 k.1.1) spell_kept is_kept kept_at kept_field (λ f. refl) (kept_form version) rest x are is)
  item_takes_by tag rest x false false false false false false true t8 t9 are one two three four five six seven eight nine is =
      subst (λ t. IsTaken t rest x) (sym (tag_is tag 7 seven)) (made_takes version 7 SessionOpened (to_be_bytes w64) is_number serial_at serial_field (λ f. refl) (λ f. plain_form _) rest x are is)
  item_takes_by tag rest x false false false false false false false true t9 are one two three four five six seven eight nine is =
      subst (λ t. IsTaken t rest x) (sym (tag_is tag 8 eight)) (made_takes version 8 (λ (x : ℕ × SessionResult). SessionEnded x.0 x.1) _ _ (then_at serial_at result_at) ended_field (λ f. refl) (λ f. plain_form _) rest x are is)
  item_takes_by tag rest x false false false false false false false false true are one two three four five six seven eight nine is =
      subst (λ t. IsTaken t rest x) (sym (tag_is tag 9 nine)) (digested_takes version rest x are is)
  item_takes_by tag rest x false false false false false false false false false are one two three four five six seven eight nine is = absurd cc

item_takes : (version : Version) (bytes : List ℕ) (x : Item × List ℕ) → IsBytes bytes → item_at version bytes ≡ Ok x → Taken item_bytes (is_item_of version) bytes x
unfolding item_at item_of
item_takes version [] x are is = absurd cc
item_takes version (tag ∷ rest) x are is = item_takes_by version tag rest x _ _ _ _ _ _ _ _ _ (tail_bytes tag rest are) refl refl refl refl refl refl refl refl refl is

digested_again : (version : Version) (repo path : List ℕ) (further : Further) (rest : List ℕ) → is_item_of version (Digested repo path further) ≡ true
    → item_at version (item_bytes (Digested repo path further) ++ rest) ≡ Ok (Digested repo path further, rest)
unfolding item_at item_of digested_at
digested_again First repo path further rest is = absurd (let p = both (is_item (Digested repo path further)) false is in cc)
digested_again Second repo path further rest is =
    let x : (List ℕ × List ℕ) × Further = ((repo, path), further) in
    ap (λ r. r >>= λ x. Ok (Digested x.0.0.0 x.0.0.1 x.0.1, x.1)) (digested_field.again x rest (sym (digested_form x) ∙ is))

item_again : (version : Version) (item : Item) (rest : List ℕ) → is_item_of version item ≡ true → item_at version (item_bytes item ++ rest) ≡ Ok (item, rest)
unfolding item_at item_of
item_again version (HostedPut repo path blob print accepted) rest is =
    let f : FileFields = ((repo, path), (blob, (print, accepted))) in
    ap (λ r. r >>= λ x. Ok (hosted_of x.0, x.1)) ((file_field version).again f rest (sym (file_form version f) ∙ is))
item_again version (Faded repo path moment) rest is =
    let x : (List ℕ × List ℕ) × ℕ = ((repo, path), moment) in
    ap (λ r. r >>= λ x. Ok (Faded x.0.0.0 x.0.0.1 x.0.1, x.1)) (dated_field.again x rest (sym (dated_form version x) ∙ is))
item_again version (Relisted repo path accepted) rest is =
    let x : (List ℕ × List ℕ) × ℕ = ((repo, path), accepted) in
    ap (λ r. r >>= λ x. Ok (Relisted x.0.0.0 x.0.0.1 x.0.1, x.1)) (dated_field.again x rest (sym (dated_form version x) ∙ is))
item_again version (Removed repo path) rest is = ap (λ r. r >>= λ x. Ok (Removed x.0.0 x.0.1, x.1)) (place_field.again (repo, path) rest (sym (plain_form _) ∙ is))
item_again version (CachedFile repo path blob print accepted) rest is =
    let f : FileFields = ((repo, path), (blob, (print, accepted))) in
    ap (λ r. r >>= λ x. Ok (cached_of x.0, x.1)) ((file_field version).again f rest (sym (file_form version f) ∙ is))
item_again version (CachedDoc repo path checked document) rest is =
    let k : KeptFields = ((repo, path), (checked, document)) in
    ap (λ r. r >>= λ x. Ok (CachedDoc x.0.0.0 x.0.0.1 x.0.1.0 x.0.1.1, x.1)) (kept_field.again k rest (sym (kept_form version k) ∙ is))
item_again version (SessionOpened number) rest is = ap (λ r. r >>= λ x. Ok (SessionOpened x.0, x.1)) (serial_field.again number rest (sym (plain_form _) ∙ is))
item_again version (SessionEnded session result) rest is =
    ap (λ r. r >>= λ x. Ok (SessionEnded x.0.0 x.0.1, x.1)) (ended_field.again (session, result) rest (sym (plain_form _) ∙ is))
item_again version (Digested repo path further) rest is = digested_again version repo path further rest is

-- ---- changes

pub record TakenItems (version : Version) (n : ℕ) (bytes : List ℕ) (x : List Item × List ℕ) : Type 0 where
  pub parts : bytes ≡ flat_map item_bytes x.0 ++ x.1
  pub left : IsBytes x.1
  pub fits : list_all is_item x.0 ≡ true
  pub of_version : are_of version x.0 ≡ true
  pub count : length x.0 ≡ n

module _ (version : Version) where
  items_takes : (n : ℕ) (bytes : List ℕ) (x : List Item × List ℕ) → IsBytes bytes → items_at version n bytes ≡ Ok x → TakenItems version n bytes x
  unfolding items_at
  items_takes zero bytes x are is = subst (TakenItems version 0 bytes) (ok_is ([], bytes) x is) (record { parts = refl; left = are; fits = refl; of_version = refl; count = refl })
  items_takes (suc n) bytes x are is =
      let a = bind_ok (item_at version bytes) (λ i. items_at version n i.1 >>= λ is. Ok (i.0 ∷ is.0, is.1)) x is in
      let b = bind_ok (items_at version n a.0.1) (λ is. Ok (a.0.0 ∷ is.0, is.1)) x a.2 in
      let h = item_takes version bytes a.0 are a.1 in
      let k = items_takes n a.0.1 b.0 h.left b.1 in
      let forms = both (is_item a.0.0) (is_of version a.0.0) h.fits in
      let made : List Item × List ℕ = (a.0.0 ∷ b.0.0, b.0.1) in
      let all : TakenItems version (suc n) bytes made = record {
        parts = h.parts ∙ ap (λ l. item_bytes a.0.0 ++ l) k.parts ∙ sym (append_assoc (item_bytes a.0.0) (flat_map item_bytes b.0.0) b.0.1);
        left = k.left;
        fits = λ i. forms.0 i && k.fits i;
        of_version = λ i. forms.1 i && k.of_version i;
        count = ap suc k.count;
      } in
      subst (TakenItems version (suc n) bytes) (ok_is made x b.2) all

  items_again : (items : List Item) (rest : List ℕ) → list_all is_item items ≡ true → are_of version items ≡ true → items_at version (length items) (flat_map item_bytes items ++ rest) ≡ Ok (items, rest)
  unfolding items_at
  items_again [] rest all so = refl
  items_again (item ∷ items) rest all so =
      let parts = both (is_item item) (list_all is_item items) all in
      let sos = both (is_of version item) (are_of version items) so in
      ap (λ l. item_at version l >>= λ i. items_at version (length items) i.1 >>= λ is. Ok (i.0 ∷ is.0, is.1)) (append_assoc (item_bytes item) (flat_map item_bytes items) rest)
      ∙ ap (λ r. r >>= λ i. items_at version (length items) i.1 >>= λ is. Ok (i.0 ∷ is.0, is.1)) (item_again version item (flat_map item_bytes items ++ rest) (λ i. parts.0 i && sos.0 i))
      ∙ ap (λ r. r >>= λ is. Ok (item ∷ is.0, is.1)) (items_again items rest parts.1 sos.1)

pub record TakenChange (bytes : List ℕ) (x : List Item × List ℕ) : Type 0 where
  pub version : Version
  pub parts : bytes ≡ change_of version x.0 ++ x.1
  pub fits : list_all is_item x.0 ≡ true
  pub of_version : are_of version x.0 ≡ true

counted_takes : (version : Version) (byte : ℕ) (rest : List ℕ) (x : List Item × List ℕ) → byte ≡ version_byte version → IsBytes rest → counted_items_at version rest ≡ Ok x → TakenChange (byte ∷ rest) x
unfolding counted_items_at
counted_takes version byte rest x first are is =
    let a = bind_ok (number_at w32 rest) (λ n. items_at version n.0 n.1) x is in
    let k = number_takes w32 (2 ^ 32) wide32 rest a.0 are a.1 in
    let t = items_takes version a.0.0 a.0.1 x k.1 a.2 in
    record {
      version = version;
      parts = (λ i. first i ∷ k.0 i) ∙ ap (λ l. version_byte version ∷ to_be_bytes w32 a.0.0 ++ l) t.parts ∙ ap (λ n. version_byte version ∷ to_be_bytes w32 n ++ (flat_map item_bytes x.0 ++ x.1)) (sym t.count)
          ∙ ap (λ l. version_byte version ∷ l) (sym (append_assoc (to_be_bytes w32 (length x.0)) (flat_map item_bytes x.0) x.1));
      fits = t.fits;
      of_version = t.of_version;
    }

pub change_takes : (bytes : List ℕ) (x : List Item × List ℕ) → IsBytes bytes → change_at bytes ≡ Ok x → TakenChange bytes x
unfolding change_at
change_takes [] x are is = absurd cc
change_takes (version ∷ rest) x are is = by (version == 1) (version == 2) refl refl is
  where
    by : (b c : Bool) → (version == 1) ≡ b → (version == 2) ≡ c → cond b (counted_items_at First rest) (cond c (counted_items_at Second rest) (Err (suc (length rest)))) ≡ Ok x → TakenChange (version ∷ rest) x
    by false false one two h = absurd cc
    by true c one two h = counted_takes First version rest x (tag_is version 1 one) (tail_bytes version rest are) h
    by false true one two h = counted_takes Second version rest x (tag_is version 2 two) (tail_bytes version rest are) h

counted_again : (version : Version) (items : List Item) (rest : List ℕ) → list_all is_item items ≡ true → are_of version items ≡ true → length items < 2 ^ 32
    → counted_items_at version ((to_be_bytes w32 (length items) ++ flat_map item_bytes items) ++ rest) ≡ Ok (items, rest)
unfolding counted_items_at
counted_again version items rest all so few =
    ap (λ l. number_at w32 l >>= λ n. items_at version n.0 n.1) (append_assoc (to_be_bytes w32 (length items)) (flat_map item_bytes items) rest)
    ∙ ap (λ r. r >>= λ n. items_at version n.0 n.1) (number_again w32 (2 ^ 32) wide32 (length items) (flat_map item_bytes items ++ rest) few)
    ∙ items_again version items rest all so

pub change_again : (version : Version) (items : List Item) (rest : List ℕ) → list_all is_item items ≡ true → are_of version items ≡ true → length items < 2 ^ 32 → change_at (change_of version items ++ rest) ≡ Ok (items, rest)
unfolding change_at
change_again First items rest all so few = counted_again First items rest all so few
change_again Second items rest all so few = counted_again Second items rest all so few
