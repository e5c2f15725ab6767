-- What a turn records makes a change: each item has its form, and together they have fewer than 2^32 bytes.
use native.Mathlib.Omega.{arith}
use Rattle.std.proofs.Common.{◌≡◌, ℕ, ◌+◌, ◌*◌, ◌<◌, ◌≤◌, true, false, List, [], ◌∷◌, ◌++◌, length, refl, sym, ap, ◌∙◌, eqb, ltb, leb, length-append}
use Rattle.std.specs.Prelude.{is_some}
use Rattle.std.specs.Int.{w16, w32, w64, to_be_bytes}
use Rattle.std.specs.List.{AllByRecursion, flat_map, list_all}
use Rattle.std.proofs.lemmas.List.Concat.{flat_map-append}
use Rattle.std.proofs.lemmas.List.Folds.{list_all-append}
use Rattle.std.proofs.lemmas.Bool.{and_from, and_parts, false≢true, ltb-false, le-leb, leb-true, eqb-true, eq-eqb}
use Rattle.mvn_coords.proofs.Judged.{kind_long}
use Rattle.repo_model.specs.declared.item.Item.{Item}
use Rattle.repo_model.specs.declared.item.Item.TheVariants.{HostedPut, Faded, Relisted, Removed, CachedFile, CachedDoc, SessionOpened, SessionEnded, Digested}
use Rattle.mvn_digest.specs.declared.digests.Digests.{Digests}
use Rattle.mvn_digest.specs.declared.known.Further.{Further}
use Rattle.repo_model.specs.declared.print.Print.{Print}
use Rattle.repo_model.specs.Prints.{recorded_print}
use Rattle.repo_model.specs.History.{latest_moment}
use Rattle.repo_model.specs.Paths.{file_in}
use Rattle.ordered_rows.specs.Recording.{IsRemoved, IsShort}
use Rattle.row_tables.specs.declared.version.Version.TheVariants.{Second}
use Rattle.row_tables.specs.Items.{IsChange, are_of, further_bytes, is_count, is_file_path, is_further, is_id, is_item, is_moment, is_number, is_of, is_print, item_bytes, place_bytes, print_bytes, text_bytes}

-- a path of a file has at most 1,024 bytes
pub short-file : (path : List ℕ) → is_file_path path ≡ true → length path ≤ 1024
short-file path named =
    elim (eqb (length path) 0) as (λ b. eqb (length path) 0 ≡ b → length path ≤ 1024) [
      | true ↦ λ e. let none : length path ≡ 0 = eqb-true (length path) 0 e in omega (arith, none)
      | false ↦ λ e.
          elim (ltb 1024 (length path)) as (λ b. ltb 1024 (length path) ≡ b → length path ≤ 1024) [
            | true ↦ λ l. absurd (false≢true (ap (λ k. is_some (file_in k)) (sym (kind_long path e l)) ∙ named))
            | false ↦ λ l. ltb-false 1024 (length path) l
          ] refl
    ] refl

-- a moment of the form
pub moment-so : (now : ℕ) → now ≤ latest_moment → is_moment now ≡ true
moment-so now late = le-leb now 253402207200 late

text-size : (t : List ℕ) → length (text_bytes t) ≡ 2 + length t
text-size t = length-append (to_be_bytes w16 (length t)) t

place-size : (repo path : List ℕ) → length (place_bytes repo path) ≡ 4 + length repo + length path
place-size repo path = omega (arith, length-append (text_bytes repo) (text_bytes path), text-size repo, text-size path)

-- the digests of a content have their lengths
pub record AreDigests (d : Digests) : Type 0 where
  pub sha1 : length d.sha1 ≡ 20
  pub md5 : length d.md5 ≡ 16
  pub sha256 : length d.sha256 ≡ 32
  pub sha512 : length d.sha512 ≡ 64

pub print-form : (print : Print) → is_count print.length ≡ true → AreDigests print.digests → is_print (recorded_print print) ≡ true
print-form print count are =
    let d = print.digests in
    and_from _ _ count (and_from _ _ (eq-eqb (length d.sha1) 20 are.sha1)
    (and_from _ _ (eq-eqb (length d.md5) 16 are.md5) (and_from _ _ (eq-eqb (length d.sha256) 32 are.sha256) (eq-eqb (length d.sha512) 64 are.sha512))))

print-size : (print : Print) → AreDigests print.digests → length (print_bytes (recorded_print print)) ≡ 140
print-size print are =
    let d = print.digests in
    let further = d.sha256 ++ d.sha512 in
    omega (
      arith,
      length-append (to_be_bytes w64 print.length) (d.sha1 ++ (d.md5 ++ further)),
      length-append d.sha1 (d.md5 ++ further),
      length-append d.md5 further,
      length-append d.sha256 d.sha512,
      are.sha1,
      are.md5,
      are.sha256,
      are.sha512,
    )

id-size : (id : List ℕ) → is_id id ≡ true → length id ≤ 64
id-size id is =
    let more = (and_parts (ltb 0 (length id)) _ is).1 in
    leb-true (length id) 64 (and_parts (leb (length id) 64) _ more).0

module _ (repo path : List ℕ) (named : is_id repo ≡ true) (file : is_file_path path ≡ true) where
  pub put-short : (blob : ℕ) (print : Print) (accepted : ℕ) → is_number blob ≡ true → is_count print.length ≡ true → AreDigests print.digests → is_moment accepted ≡ true
      → IsShort (HostedPut repo path blob (recorded_print print) accepted)
  put-short blob print accepted number count are moment =
      let bytes = print_bytes (recorded_print print) in
      let rest = bytes ++ to_be_bytes w64 accepted in
      let tail = to_be_bytes w64 blob ++ rest in
      record {
        form = and_from _ _ named (and_from _ _ file (and_from _ _ number (and_from _ _ (print-form print count are) moment)));
        whole = refl;
        size = omega (arith, length-append (place_bytes repo path) tail, length-append (to_be_bytes w64 blob) rest, length-append bytes (to_be_bytes w64 accepted), place-size repo path, print-size print are, id-size repo named, short-file path file);
      }

  pub fade-short : (moment : ℕ) → is_moment moment ≡ true → IsShort (Faded repo path moment)
  fade-short moment is = record {
    form = and_from _ _ named (and_from _ _ file is);
    whole = refl;
    size = omega (arith, length-append (place_bytes repo path) (to_be_bytes w64 moment), place-size repo path, id-size repo named, short-file path file);
  }

  pub relist-short : (moment : ℕ) → is_moment moment ≡ true → IsShort (Relisted repo path moment)
  relist-short moment is = record {
    form = and_from _ _ named (and_from _ _ file is);
    whole = refl;
    size = omega (arith, length-append (place_bytes repo path) (to_be_bytes w64 moment), place-size repo path, id-size repo named, short-file path file);
  }

  pub removed-short : IsShort (Removed repo path)
  removed-short = record {
    form = and_from _ _ named file;
    whole = refl;
    size = omega (arith, place-size repo path, id-size repo named, short-file path file);
  }

-- further digests have 32 and 64 bytes
further-size : (further : Further) → is_further further ≡ true → length (further_bytes further) ≡ 96
further-size further is =
    let parts = and_parts (eqb (length further.sha256) 32) (eqb (length further.sha512) 64) is in
    omega (arith, length-append further.sha256 further.sha512, eqb-true (length further.sha256) 32 parts.0, eqb-true (length further.sha512) 64 parts.1)

pub digested-short : (repo path : List ℕ) → is_id repo ≡ true → is_file_path path ≡ true → (further : Further) → is_further further ≡ true → IsShort (Digested repo path further)
digested-short repo path named file further is = record {
  form = and_from _ _ named (and_from _ _ file is);
  whole = refl;
  size = omega (arith, length-append (place_bytes repo path) (further_bytes further), place-size repo path, further-size further is, id-size repo named, short-file path file);
}

all-form : (items : List Item) → AllByRecursion IsShort items → list_all is_item items ≡ true
all-form [] all = refl
all-form (item ∷ items) all = and_from (is_item item) (list_all is_item items) all.0.form (all-form items all.1)

all-size : (items : List Item) → AllByRecursion IsShort items → length (flat_map item_bytes items) ≤ 1249 * length items
all-size [] all = omega arith
all-size (item ∷ items) all = omega (arith, length-append (item_bytes item) (flat_map item_bytes items), all.0.size, all-size items all.1)

-- short items are of the second version
pub all-whole : (items : List Item) → AllByRecursion IsShort items → are_of Second items ≡ true
all-whole [] all = refl
all-whole (item ∷ items) all = and_from (is_of Second item) (are_of Second items) all.0.whole (all-whole items all.1)

-- and so they are with one more
pub whole-with : (items : List Item) (also : Item) → AllByRecursion IsShort items → is_of Second also ≡ true → are_of Second (items ++ also ∷ []) ≡ true
whole-with items also all whole =
    list_all-append (is_of Second) items (also ∷ []) ∙ and_from (are_of Second items) (are_of Second (also ∷ [])) (all-whole items all) (and_from (is_of Second also) true whole refl)

-- removals are of the second version
pub removals-whole : (items : List Item) → AllByRecursion IsRemoved items → are_of Second items ≡ true
removals-whole [] all = refl
removals-whole (Removed repo path ∷ items) all = removals-whole items all.1
removals-whole (HostedPut repo path blob print accepted ∷ items) all = absurd all.0
removals-whole (Faded repo path moment ∷ items) all = absurd all.0
removals-whole (Relisted repo path accepted ∷ items) all = absurd all.0
removals-whole (CachedFile repo path blob print accepted ∷ items) all = absurd all.0
removals-whole (CachedDoc repo path checked document ∷ items) all = absurd all.0
removals-whole (SessionOpened n ∷ items) all = absurd all.0
removals-whole (SessionEnded n result ∷ items) all = absurd all.0
removals-whole (Digested repo path further ∷ items) all = absurd all.0

-- up to a million short items, and one, make a change
pub change-of : (items : List Item) → AllByRecursion IsShort items → length items ≤ 1000001 → IsChange items
change-of items all few = record {
  form = all-form items all;
  size =
      let head = to_be_bytes w32 (length items) in
      omega (arith, length-append head (flat_map item_bytes items), all-size items all, few);
}

-- up to a million short items, and one that has fewer than 65,536 bytes, make a change
pub change-with : (items : List Item) (also : Item) → AllByRecursion IsShort items → length items ≤ 1000000 → is_item also ≡ true → length (item_bytes also) < 65536 → IsChange (items ++ also ∷ [])
change-with items also all few form short = record {
  form = list_all-append is_item items (also ∷ []) ∙ and_from (list_all is_item items) (list_all is_item (also ∷ [])) (all-form items all) (and_from (is_item also) true form refl);
  size =
      let head = to_be_bytes w32 (length (items ++ also ∷ [])) in
      omega (
        arith,
        length-append head (flat_map item_bytes (items ++ also ∷ [])),
        ap length (flat_map-append item_bytes items (also ∷ [])),
        length-append (flat_map item_bytes items) (item_bytes also ++ []),
        length-append (item_bytes also) [],
        all-size items all,
        few,
        short,
      );
}
