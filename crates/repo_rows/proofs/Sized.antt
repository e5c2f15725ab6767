-- What has the form of an item has sizes that can be said.
use Rattle.std.proofs.Common.{◌≡◌, ℕ, zero, suc, ◌<◌, ◌^◌, true, List, [], ◌∷◌, ◌++◌, length, get_or, Option, Some, None, Result, Ok, Err, IsTrue, ◌∙◌, ap, append_assoc, arith}
use Rattle.std.specs.Prelude.{is_some, nat_le, bytes_eq, OnOk}
use Rattle.std.specs.List.{list_all}
use Rattle.std.proofs.lemmas.Bool.Decides.{nat_tests}
use Rattle.mvn_coords.specs.Layout.{Directory}
use Rattle.mvn_metadata.specs.Document.{Document, settled}
use Rattle.mvn_metadata.specs.Form.{is_document}
use Rattle.mvn_metadata.specs.Written.{text}
use Rattle.repo_model.specs.declared.item.Item.{Item}
use Rattle.repo_model.specs.declared.item.Item.TheVariants.{HostedPut, Faded, Relisted, Removed, CachedFile, CachedDoc, SessionOpened, SessionEnded, Digested}
use Rattle.row_tables.specs.Items.{is_id, is_file_path, directory_at, is_moment, is_kept_in, is_item}
use Rattle.repo_rows.specs.Sizes.{IsSized}
use Rattle.repo_rows.proofs.Ascii.{both, id_short, file_path_short, document_path_short}

few_bytes : (n : ℕ) → nat_le n 4100000 ≡ true → n < 2 ^ 32
few_bytes n is = grind (arith, nat_tests)

kept_size : (o : Option Directory) (d : Document) → is_kept_in o d ≡ true → length (text d) < 2 ^ 32
kept_size None d is = absurd cc
kept_size (Some dir) d is = few_bytes (length (text d)) (both (bytes_eq (text (settled d dir)) (text d)) _ (both (is_document d) _ is).1).1

item_sized : (item : Item) → is_item item ≡ true → IsSized item
item_sized (HostedPut repo path blob print accepted) is = let p = both (is_id repo) _ is in (id_short repo p.0, file_path_short path (both (is_file_path path) _ p.1).0)
item_sized (Faded repo path moment) is = let p = both (is_id repo) _ is in (id_short repo p.0, file_path_short path (both (is_file_path path) _ p.1).0)
item_sized (Relisted repo path accepted) is = let p = both (is_id repo) _ is in (id_short repo p.0, file_path_short path (both (is_file_path path) _ p.1).0)
item_sized (Removed repo path) is = let p = both (is_id repo) (is_file_path path) is in (id_short repo p.0, file_path_short path p.1)
item_sized (CachedFile repo path blob print accepted) is = let p = both (is_id repo) _ is in (id_short repo p.0, file_path_short path (both (is_file_path path) _ p.1).0)
item_sized (CachedDoc repo path checked document) is =
    let p = both (is_id repo) _ is in
    let q = both (is_some (directory_at path)) _ p.1 in
    (id_short repo p.0, document_path_short path q.0, kept_size (directory_at path) document (both (is_moment checked) _ q.1).1)
item_sized (SessionOpened number) is = tt
item_sized (SessionEnded session result) is = tt
item_sized (Digested repo path further) is = let p = both (is_id repo) _ is in (id_short repo p.0, file_path_short path (both (is_file_path path) _ p.1).0)

pub are_sized : (items : List Item) → IsTrue (list_all is_item items) → (k : ℕ) (d : Item) → k < length items → IsSized (get_or items k d)
are_sized [] all k d within = absurd (omega arith)
are_sized (item ∷ items) all zero d within = item_sized item (both (is_item item) (list_all is_item items) all).0
are_sized (item ∷ items) all (suc k) d within = are_sized items (both (is_item item) (list_all is_item items) all).1 k d (omega (arith, within))

-- what two calls write, one after the other
pub put_then : {T E : Type 0} (r : Result T E) (new old a b mid : List ℕ) → mid ≡ old ++ a → OnOk r (new ≡ mid ++ b) → OnOk r (new ≡ old ++ (a ++ b))
put_then (Ok x) new old a b mid is then = then ∙ ap (λ l. l ++ b) is ∙ append_assoc old a b
put_then (Err e) new old a b mid is then = tt
