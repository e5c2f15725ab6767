-- One more file after those whose items are there.
use Rattle.std.specs.Prelude.{is_some, is_none}
use Rattle.std.proofs.Common.{◌≡◌, ℕ, ◌+◌, ◌<◌, true, false, Option, Some, None, List, [], ◌∷◌, ◌++◌, length, map, take, get_or, refl, sym, ap, ◌∙◌, subst}
use Rattle.std.proofs.lemmas.List.{append-nil, append_assoc, map-append, take_more}
use Rattle.mvn_digest.specs.declared.known.Further.{Further}
use Rattle.outside.specs.Blobs.{Shelf}
use Rattle.repo_model.specs.declared.item.Item.{Item}
use Rattle.blob_audit.specs.Files.{shown_file}
use Rattle.blob_audit.specs.Order.{File}
use Rattle.blob_audit.specs.declared.order.RecordedFile.{RecordedFile}
use Rattle.row_completion.specs.Completion.{IsFurtherOf}
use Rattle.row_completion.specs.Gathering.{Adds, AreItemsOf, items_of}

-- what is some is not none
pub some-none : {X : Type 0} (o : Option X) → true ≡ is_some o → is_none o ≡ false
some-none None is = is
some-none (Some x) is = refl

items-after : (shelf : Shelf) (f : File) (further : Further) → IsFurtherOf shelf f.row further → (files : List File) (items : List Item) → AreItemsOf shelf files items
    → AreItemsOf shelf (files ++ f ∷ []) (items ++ items_of f further)
items-after shelf f further is [] items none = (further, [], is, ap (λ them. them ++ items_of f further) none ∙ sym (append-nil (items_of f further)), refl)
items-after shelf f further is (g ∷ files) items all = (
  all.0,
  all.1 ++ items_of f further,
  all.2,
  ap (λ them. them ++ items_of f further) all.3 ∙ append_assoc (items_of g all.0) all.1 (items_of f further),
  items-after shelf f further is files all.1 all.4,
)

pub items-more : (shelf : Shelf) (files : List RecordedFile) (i : ℕ) (file : RecordedFile) → i < length files → file ≡ get_or files i file → (old new : List Item)
    → AreItemsOf shelf (map shown_file (take i files)) old → Adds shelf (shown_file file) old new → AreItemsOf shelf (map shown_file (take (i + 1) files)) new
items-more shelf files i file within is old new all adds =
    let more : map shown_file (take i files) ++ shown_file file ∷ [] ≡ map shown_file (take (i + 1) files) =
    sym (ap (map shown_file) (take_more files i file within ∙ ap (λ (f : RecordedFile). take i files ++ f ∷ []) (sym is)) ∙ map-append shown_file (take i files) (file ∷ [])) in
    subst (λ them. AreItemsOf shelf them new) more
    (subst (AreItemsOf shelf (map shown_file (take i files) ++ shown_file file ∷ [])) (sym adds.2)
    (items-after shelf (shown_file file) adds.0 adds.1 (map shown_file (take i files)) old all))
