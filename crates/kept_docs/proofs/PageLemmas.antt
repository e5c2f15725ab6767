-- Pages: the room for them, what is found among them, and how they are placed.
use Rattle.std.proofs.Common.{◌≡◌, ℕ, true, false, cond, List, [], ◌∷◌, ◌++◌, Option, Some, None, unwrap_or, String, Global, string_bytes, bytes_eq, nat_cmp, refl, sym, ap, ◌∙◌, subst}
use Rattle.std.specs.Prelude.{IsSome, is_some}
use Rattle.std.proofs.lemmas.Map.Text.{btree_map_updates_text}
use Rattle.std.proofs.lemmas.Slice.Eq.{bytes_eq-Decides}
use Rattle.std.specs.BTreeMap.{BTreeMap, UpdatesBy, get_by_text}
use Rattle.std.specs.String.{string_cmp}
use Rattle.ordered_rows.proofs.MapLemmas.{same_test}
use Rattle.std.proofs.lemmas.Map.Text.{is_eq-slice_cmp}
use Rattle.std.specs.BTreeMap.{is_at}
use Rattle.std.specs.Cmp.Lexicographic.{slice_cmp}
use Rattle.std.specs.Map.{lookup}
use Rattle.mvn_metadata.specs.Document.{Document}
use Rattle.kept_docs.specs.Kept.{document_in, document_of_place, kept_at, place_at}
use Rattle.kept_docs.specs.Placed.{HasRoom, page_at, placed}
use Rattle.kept_docs.specs.declared.docs.Docs.{Docs}
use Rattle.written_docs.specs.declared.document.WrittenDoc.{WrittenDoc}
use Rattle.kept_docs.specs.declared.pages.Page.{Page}

-- ---- places
turned : (a b : List ℕ) → bytes_eq a b ≡ bytes_eq b a
turned a b = sym (is_eq-slice_cmp a b) ∙ same_test a b

module _ (bs : List ℕ) (m n : BTreeMap (String Global) (Option WrittenDoc)) where
  abbrev Updates : Option (Option WrittenDoc) → Type 0
  Updates w = UpdatesBy string_cmp (λ k. slice_cmp nat_cmp bs (string_bytes k)) m n w

  -- a place in which no document is goes
  pub dropped-place : Updates None → get_by_text m bs ≡ Some None → (text : List ℕ) → document_of_place (get_by_text n text) ≡ document_of_place (get_by_text m text)
  dropped-place up at text =
      ap document_of_place (btree_map_updates_text bs m n None up text)
      ∙ elim (bytes_eq bs text) as (λ b. bytes_eq bs text ≡ b → document_of_place (cond b None (get_by_text m text)) ≡ document_of_place (get_by_text m text)) [
        | true ↦ λ is. sym (ap (λ t. document_of_place (get_by_text m t)) (sym ((bytes_eq-Decides bs text).0 is)) ∙ ap document_of_place at)
        | false ↦ λ no. refl
      ] refl

  -- one comes where none was
  pub added-place : Updates (Some None) → is_some (get_by_text m bs) ≡ false → (text : List ℕ) → document_of_place (get_by_text n text) ≡ document_of_place (get_by_text m text)
  added-place up free text =
      ap document_of_place (btree_map_updates_text bs m n (Some None) up text)
      ∙ elim (bytes_eq bs text) as (λ b. bytes_eq bs text ≡ b → document_of_place (cond b (Some None) (get_by_text m text)) ≡ document_of_place (get_by_text m text)) [
        | true ↦ λ is. sym (ap (λ t. document_of_place (get_by_text m t)) (sym ((bytes_eq-Decides bs text).0 is)) ∙ ap document_of_place (none_of (get_by_text m bs) free))
        | false ↦ λ no. refl
      ] refl
    where
      none_of : (o : Option (Option WrittenDoc)) → is_some o ≡ false → o ≡ None
      none_of None is = refl
      none_of (Some x) is = absurd (let wrong : true ≡ false = is in cc)

  -- a document is put into one
  pub set-place : (kept : Option WrittenDoc) → Updates (Some kept) → (text : List ℕ) → document_of_place (get_by_text n text) ≡ cond (bytes_eq text bs) (document_in kept) (document_of_place (get_by_text m text))
  set-place kept up text =
      ap document_of_place (btree_map_updates_text bs m n (Some kept) up text)
      ∙ ap (λ b. document_of_place (cond b (Some kept) (get_by_text m text))) (turned bs text)
      ∙ elim (bytes_eq text bs) as (λ b. document_of_place (cond b (Some kept) (get_by_text m text)) ≡ cond b (document_in kept) (document_of_place (get_by_text m text))) [ true ↦ refl | false ↦ refl ]

  -- a place goes with what is in it
  pub removed-place : Updates None → (text : List ℕ) → document_of_place (get_by_text n text) ≡ cond (bytes_eq text bs) None (document_of_place (get_by_text m text))
  removed-place up text =
      ap document_of_place (btree_map_updates_text bs m n None up text)
      ∙ ap (λ b. document_of_place (cond b None (get_by_text m text))) (turned bs text)
      ∙ elim (bytes_eq text bs) as (λ b. document_of_place (cond b None (get_by_text m text)) ≡ cond b None (document_of_place (get_by_text m text))) [ true ↦ refl | false ↦ refl ]

  -- no place goes
  pub kept-place : (kept : Option WrittenDoc) → Updates (Some kept) → (text : List ℕ) → IsSome (get_by_text m text) → IsSome (get_by_text n text)
  kept-place kept up text some =
      subst (λ (o : Option (Option WrittenDoc)). IsSome o) (sym (btree_map_updates_text bs m n (Some kept) up text))
      (elim (bytes_eq bs text) as (λ b. IsSome (cond b (Some kept) (get_by_text m text))) [ true ↦ refl | false ↦ some ])

-- ---- room
room-kept : (old new : Docs) → ((text : List ℕ) → IsSome (place_at text old) → IsSome (place_at text new)) → (pages : List Page) → HasRoom old pages → HasRoom new pages
room-kept old new kept [] room = tt
room-kept old new kept (page ∷ pages) room = (kept (string_bytes page.path) room.0, room-kept old new kept pages room.1)

room-append : (docs : Docs) (pages : List Page) (page : Page) → HasRoom docs pages → IsSome (place_at (string_bytes page.path) docs) → HasRoom docs (pages ++ page ∷ [])
room-append docs [] page room one = (one, tt)
room-append docs (p ∷ pages) page room one = (room.0, room-append docs pages page room.1 one)

pub room-more : (old new : Docs) (pages : List Page) (page : Page) → ((text : List ℕ) → IsSome (place_at text old) → IsSome (place_at text new)) → HasRoom old pages
    → IsSome (place_at (string_bytes page.path) new) → HasRoom new (pages ++ page ∷ [])
room-more old new pages page kept room one = room-append new pages page (room-kept old new kept pages room) one

pub room-front : (docs : Docs) (pages : List Page) (page : Page) → HasRoom docs (pages ++ page ∷ []) → HasRoom docs pages × IsSome (place_at (string_bytes page.path) docs)
room-front docs [] page room = (tt, room.0)
room-front docs (p ∷ pages) page room = let rest = room-front docs pages page room.1 in ((room.0, rest.0), rest.1)

pub room-left : (old new : Docs) (pages rest : List Page) (page : Page) → pages ≡ rest ++ page ∷ [] → ((text : List ℕ) → IsSome (place_at text old) → IsSome (place_at text new)) → HasRoom old pages → HasRoom new rest
room-left old new pages rest page is kept room = room-kept old new kept rest (room-front old rest page (subst (HasRoom old) is room)).0

pub room-last : (docs : Docs) (pages rest : List Page) (page : Page) → pages ≡ rest ++ page ∷ [] → HasRoom docs pages → IsSome (place_at (string_bytes page.path) docs)
room-last docs pages rest page is room = (room-front docs rest page (subst (HasRoom docs) is room)).1

-- ---- the last page in its place
placed-last : (text : List ℕ) (old new : Docs) (page : Page) → kept_at text new ≡ cond (bytes_eq text (string_bytes page.path)) (document_in page.kept) (kept_at text old)
    → (pages : List Page) → placed text old (pages ++ page ∷ []) ≡ placed text new pages
placed-last text old new page set [] =
    elim (bytes_eq text (string_bytes page.path)) as (λ b. unwrap_or (cond b (Some (document_in page.kept)) None) (kept_at text old) ≡ cond b (document_in page.kept) (kept_at text old)) [ true ↦ refl | false ↦ refl ]
    ∙ sym set
placed-last text old new page set (p ∷ pages) =
    elim (bytes_eq text (string_bytes p.path)) as (λ b. unwrap_or (cond b (Some (document_in p.kept)) (page_at text (pages ++ page ∷ []))) (kept_at text old) ≡ unwrap_or (cond b (Some (document_in p.kept)) (page_at text pages)) (kept_at text new)) [
      | true ↦ refl
      | false ↦ placed-last text old new page set pages
    ]

pub placed-pop : (text : List ℕ) (old new : Docs) (pages rest : List Page) (page : Page) → pages ≡ rest ++ page ∷ []
    → kept_at text new ≡ cond (bytes_eq text (string_bytes page.path)) (document_in page.kept) (kept_at text old) → placed text new rest ≡ placed text old pages
placed-pop text old new pages rest page is set = sym (ap (placed text old) is ∙ placed-last text old new page set rest)

-- ---- pages that are written of the entries of a map
abbrev pub first : {A : Type 0} → Option A → Option A → Option A
first None o = o
first (Some x) o = Some x

abbrev pub found : List ℕ → List (String Global × Option Document) → Option (Option Document)
found text es = lookup (is_at (λ k. slice_cmp nat_cmp text (string_bytes k))) es

pub first-more : (text : List ℕ) (pages : List Page) (page : Page) (e : String Global × Option Document) (es : List (String Global × Option Document)) → page.path ≡ e.0 → document_in page.kept ≡ e.1
    → first (page_at text (pages ++ page ∷ [])) (found text es) ≡ first (page_at text pages) (found text (e ∷ es))
first-more text [] page e es path doc =
    let test : is_at (λ k. slice_cmp nat_cmp text (string_bytes k)) e.0 ≡ bytes_eq text (string_bytes page.path) = is_eq-slice_cmp text (string_bytes e.0) ∙ ap (λ k. bytes_eq text (string_bytes k)) (sym path) in
    elim (bytes_eq text (string_bytes page.path)) as (λ b. first (cond b (Some (document_in page.kept)) None) (found text es) ≡ cond b (Some e.1) (found text es)) [ true ↦ ap Some doc | false ↦ refl ]
    ∙ sym (ap (λ b. cond b (Some e.1) (found text es)) test)
first-more text (p ∷ pages) page e es path doc =
    elim (bytes_eq text (string_bytes p.path)) as (λ b. first (cond b (Some (document_in p.kept)) (page_at text (pages ++ page ∷ []))) (found text es) ≡ first (cond b (Some (document_in p.kept)) (page_at text pages)) (found text (e ∷ es))) [
      | true ↦ refl
      | false ↦ first-more text pages page e es path doc
    ]
