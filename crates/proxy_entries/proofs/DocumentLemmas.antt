-- Documents in the entries of an ordered map.
use Rattle.std.proofs.Common.{◌≡◌, ℕ, true, false, cond, List, [], ◌∷◌, Some, None, option_map, String, Global, string_bytes, Less, Equal, Greater, is_eq, nat_cmp, refl, sym, ◌∙◌, ap, bytes_eq}
use Rattle.std.proofs.lemmas.Cmp.{tied_itself, nat_list_cmp_total}
use Rattle.std.proofs.lemmas.Option.{none-some}
use Rattle.std.proofs.lemmas.Slice.Eq.{bytes_eq-Decides}
use Rattle.std.specs.Cmp.Lexicographic.{slice_cmp}
use Rattle.std.specs.Ordering.{match_ordering}
use Rattle.std.specs.Map.{lookup, remove_entry}
use Rattle.std.specs.BTreeMap.{insert_entry}
use Rattle.std.specs.String.{string_cmp}
use Rattle.repo_model.specs.Effect.{with_kept}
use Rattle.repo_model.specs.Proxies.{kept_at}
use Rattle.proxy_entries.proofs.KeyLemmas.{at_path, at_text, same_test}
use Rattle.proxy_entries.specs.Stored.{kept_entry, shown_documents, shown_kept}
use Rattle.proxy_entries.specs.declared.kept.Kept.{Kept}

-- what the map has at a path
pub found : (path : List ℕ) (es : List (String Global × Kept)) → option_map (shown_kept path) (lookup (at_text path) es) ≡ kept_at path (shown_documents es)
found path [] = refl
found path (e ∷ es) =
    ap (λ b. option_map (shown_kept path) (cond b (Some e.1) (lookup (at_text path) es))) (same_test path (string_bytes e.0))
    ∙ elim (bytes_eq (string_bytes e.0) path)
    as (λ b. bytes_eq (string_bytes e.0) path ≡ b → option_map (shown_kept path) (cond b (Some e.1) (lookup (at_text path) es)) ≡ cond b (Some (kept_entry e)) (kept_at path (shown_documents es))) [
      | true ↦ λ is. ap (λ p. Some (shown_kept p e.1)) (sym ((bytes_eq-Decides (string_bytes e.0) path).0 is))
      | false ↦ λ is. found path es
    ] refl

-- a document is put at a path
pub kept : (k : String Global) (v : Kept) (es : List (String Global × Kept))
    → shown_documents (insert_entry string_cmp es k v) ≡ with_kept (shown_kept (string_bytes k) v) (shown_documents es)
kept k v [] = refl
kept k v (e ∷ es) =
    let new = shown_kept (string_bytes k) v in
    elim (slice_cmp nat_cmp (string_bytes k) (string_bytes e.0))
    as (λ o. slice_cmp nat_cmp (string_bytes k) (string_bytes e.0) ≡ o
    → shown_documents (match_ordering o ((k, v) ∷ e ∷ es) ((e.0, v) ∷ es) (e ∷ insert_entry string_cmp es k v))
    ≡ match_ordering o (new ∷ kept_entry e ∷ shown_documents es) (new ∷ shown_documents es) (kept_entry e ∷ with_kept new (shown_documents es))) [
      | Less ↦ λ h. refl
      | Equal ↦ λ h. ap (λ p. shown_kept p v ∷ shown_documents es) (at_path (string_bytes k) (string_bytes e.0) h)
      | Greater ↦ λ h. ap (λ r. kept_entry e ∷ r) (kept k v es)
    ] refl

-- an entry that is put at a key that has none, and taken out again
pub taken-back : {X : Type 0} (k : String Global) (v : X) (es : List (String Global × X)) → lookup (at_text (string_bytes k)) es ≡ None
    → remove_entry (at_text (string_bytes k)) (insert_entry string_cmp es k v) ≡ es
taken-back {X} k v es none = back es none
  where
    itself : is_eq (slice_cmp nat_cmp (string_bytes k) (string_bytes k)) ≡ true
    itself = ap is_eq (tied_itself nat_list_cmp_total (string_bytes k))

    gone : (rest : List (String Global × X)) → remove_entry (at_text (string_bytes k)) ((k, v) ∷ rest) ≡ rest
    gone rest = ap (λ b. cond b rest ((k, v) ∷ remove_entry (at_text (string_bytes k)) rest)) itself

    back : (rest : List (String Global × X)) → lookup (at_text (string_bytes k)) rest ≡ None → remove_entry (at_text (string_bytes k)) (insert_entry string_cmp rest k v) ≡ rest
    back [] free = gone []
    back (e ∷ rest) free =
        elim (slice_cmp nat_cmp (string_bytes k) (string_bytes e.0))
        as (λ o. slice_cmp nat_cmp (string_bytes k) (string_bytes e.0) ≡ o
        → remove_entry (at_text (string_bytes k)) (match_ordering o ((k, v) ∷ e ∷ rest) ((e.0, v) ∷ rest) (e ∷ insert_entry string_cmp rest k v)) ≡ e ∷ rest) [
          | Less ↦ λ h. gone (e ∷ rest)
          | Equal ↦ λ h. absurd (none-some e.1 (sym free ∙ ap (λ o. cond (is_eq o) (Some e.1) (lookup (at_text (string_bytes k)) rest)) h))
          | Greater ↦ λ h.
              let behind : lookup (at_text (string_bytes k)) rest ≡ None = sym (ap (λ o. cond (is_eq o) (Some e.1) (lookup (at_text (string_bytes k)) rest)) h) ∙ free in
              ap (λ o. cond (is_eq o) (insert_entry string_cmp rest k v) (e ∷ remove_entry (at_text (string_bytes k)) (insert_entry string_cmp rest k v))) h
              ∙ ap (λ r. e ∷ r) (back rest behind)
        ] refl
