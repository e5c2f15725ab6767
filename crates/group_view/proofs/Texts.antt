-- What a shelf has at a path, once its map has changed at one.
use Rattle.std.proofs.Common.{◌≡◌, ℕ, true, false, cond, List, Option, option_map, String, Global, string_bytes, bytes_eq, nat_cmp, refl, sym, ap, ◌∙◌}
use Rattle.std.proofs.lemmas.Bool.{both_ways, false_from_ne_true}
use Rattle.std.proofs.lemmas.Map.Text.{btree_map_updates_text}
use Rattle.std.proofs.lemmas.Slice.Eq.{bytes_eq-Decides}
use Rattle.std.specs.BTreeMap.{BTreeMap, UpdatesBy, get_by_text}
use Rattle.std.specs.Cmp.Lexicographic.{slice_cmp}
use Rattle.std.specs.String.{string_cmp}
use Rattle.mvn_metadata.specs.Document.{Document}
use Rattle.written_docs.specs.declared.document.WrittenDoc.{WrittenDoc}

abbrev document_in : Option WrittenDoc → Option Document
document_in w = option_map (λ (x : WrittenDoc). x.doc) w

turned : (a b : List ℕ) → bytes_eq a b ≡ bytes_eq b a
turned a b =
    elim (bytes_eq b a) as (λ c. bytes_eq b a ≡ c → bytes_eq a b ≡ c) [
      | true ↦ λ is. (bytes_eq-Decides a b).1 (sym ((bytes_eq-Decides b a).0 is))
      | false ↦ λ no. false_from_ne_true (bytes_eq a b) (λ is. both_ways (bytes_eq b a) no ((bytes_eq-Decides b a).1 (sym ((bytes_eq-Decides a b).0 is))))
    ] refl

-- the document at the path of the change is the new one, or none, and others stay
pub changed : (bs : List ℕ) (m n : BTreeMap (String Global) WrittenDoc) (w : Option WrittenDoc) → UpdatesBy string_cmp (λ k. slice_cmp nat_cmp bs (string_bytes k)) m n w
    → (text : List ℕ) → document_in (get_by_text n text) ≡ cond (bytes_eq text bs) (document_in w) (document_in (get_by_text m text))
changed bs m n w up text =
    ap document_in (btree_map_updates_text bs m n w up text)
    ∙ ap (λ b. document_in (cond b w (get_by_text m text))) (turned bs text)
    ∙ elim (bytes_eq text bs) as (λ b. document_in (cond b w (get_by_text m text)) ≡ cond b (document_in w) (document_in (get_by_text m text))) [ true ↦ refl | false ↦ refl ]
