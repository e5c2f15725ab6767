-- What a map by texts has at a text, once it has changed at one.
use Rattle.std.proofs.Common.{◌≡◌, ℕ, false, cond, List, Option, String, Global, string_bytes, bytes_eq, nat_cmp, refl, sym, ap, ◌∙◌}
use Rattle.std.proofs.lemmas.Bool.{false_from_ne_true}
use Rattle.std.proofs.lemmas.Map.Text.{btree_map_updates_text}
use Rattle.std.proofs.lemmas.Slice.Eq.{bytes_eq-Decides}
use Rattle.std.specs.BTreeMap.{BTreeMap, UpdatesBy, get_by_text}
use Rattle.std.specs.Cmp.Lexicographic.{slice_cmp}
use Rattle.std.specs.String.{string_cmp}
use Rattle.mvn_coords.specs.Kind.{kind}
use Rattle.mvn_coords.specs.Layout.{Directory, text_of_document}
use Rattle.mvn_coords.specs.Path.{IsDirectory}
use Rattle.mvn_coords.specs.declared.fault.PathFault.{PathFault}
use Rattle.mvn_coords.specs.declared.kind.Kind.{Kind}
use Rattle.mvn_coords.specs.declared.kind.Kind.TheVariants.{Doc}
use Rattle.mvn_coords.proofs.ExactPaths.{kind_of_document}
use Rattle.std.specs.Prelude.{Result, Ok}

module _ {X : Type 0} where
  pub own_text : (bs : List ℕ) (m n : BTreeMap (String Global) X) (w : Option X) → UpdatesBy string_cmp (λ k. slice_cmp nat_cmp bs (string_bytes k)) m n w → get_by_text n bs ≡ w
  own_text bs m n w up = btree_map_updates_text bs m n w up bs ∙ ap (λ b. cond b w (get_by_text m bs)) ((bytes_eq-Decides bs bs).1 refl)

  pub other_text : (bs : List ℕ) (m n : BTreeMap (String Global) X) (w : Option X) → UpdatesBy string_cmp (λ k. slice_cmp nat_cmp bs (string_bytes k)) m n w
      → (text : List ℕ) → (text ≡ bs → ⊥) → get_by_text n text ≡ get_by_text m text
  other_text bs m n w up text apart =
      btree_map_updates_text bs m n w up text ∙ ap (λ b. cond b w (get_by_text m text)) (false_from_ne_true (bytes_eq bs text) (λ is. apart (sym ((bytes_eq-Decides bs text).0 is))))

-- a path that is no directory's document is that of none
pub no_document : (document : List ℕ) (k : Result Kind PathFault) → k ≡ kind document → ((e : Directory) → k ≡ Ok (Doc e) → ⊥) → (d : Directory) → IsDirectory d → bytes_eq (text_of_document d) document ≡ false
no_document document k is none d rule =
    false_from_ne_true (bytes_eq (text_of_document d) document) (λ here. none d (is ∙ ap kind (sym ((bytes_eq-Decides (text_of_document d) document).0 here)) ∙ kind_of_document d rule))

doc_same : (d e : Directory) → ◌≡◌ {A = Result Kind PathFault} (Ok (Doc d)) (Ok (Doc e)) → d ≡ e
doc_same d e is = cc

-- directories of one document are one
pub same_directory : (d e : Directory) → IsDirectory d → IsDirectory e → text_of_document d ≡ text_of_document e → d ≡ e
same_directory d e is_d is_e same = doc_same d e (sym (kind_of_document d is_d) ∙ ap kind same ∙ kind_of_document e is_e)
