-- The files and documents in the tables are those of the proxies: kept by each effect and its item.
use Rattle.std.proofs.Common.{◌≡◌, ℕ, false, cond, List, [], map, Option, Some, refl, sym, ◌∙◌, ap, option_map}
use Rattle.std.specs.Prelude.{find, bytes_eq, if◌then◌else◌}
use Rattle.std.specs.Option.{option_map_or}
use Rattle.repo_model.specs.Data.{Kept, Proxy}
use Rattle.repo_model.specs.Settings.{ProxyRule}
use Rattle.repo_model.specs.State.{State, is_proxy, row_at, new_proxy}
use Rattle.repo_model.specs.Effect.{Effect, caches, keeps_doc, adds_negative, clears_negative, with_kept, proxy_after, with_effect, items_of}
use Rattle.repo_model.specs.May.{May}
use Rattle.repo_model.specs.Proxies.{kept_at}
use Rattle.repo_model.specs.Tables.{Tables, RecordedDocument, recorded_at, with_document}
use Rattle.repo_laws.specs.Laws.{without_bytes}
use Rattle.repo_laws.specs.Holds.{with_items}
use Rattle.repo_laws.specs.Items.{is_place, document_at}
use Rattle.repo_laws.specs.Files.{documents_in, FilesHeld, DocumentsHeld, recorded_kept}
use Rattle.repo_laws.proofs.HoldingLists.{all-map}
use Rattle.repo_laws.proofs.HoldingRows.{held-same, held-then, rows-held-new, shown_row}
use Rattle.repo_laws.proofs.Inserted.{find-keyed, find-placed, with_document-is, with_kept-is}
use Rattle.repo_laws.proofs.Rows.{all-part, is_itself}

abbrev id_of : Proxy → List ℕ
id_of p = p.rule.id

abbrev shown_document : List ℕ → List ℕ → List Kept → Option RecordedDocument
shown_document id path kept = option_map (recorded_kept id) (kept_at path kept)

pub files-held-kept : (grace now : ℕ) (s : State) (e : Effect) (t : Tables) → May grace now s e → FilesHeld t.cached s.proxies → FilesHeld (with_items t (items_of e)).cached (with_effect s e).proxies
files-held-kept grace now s (caches id path blob moment) t may held =
    rows-held-new id_of (λ (p : Proxy). p.files) id path (proxy_after (caches id path blob moment)) (λ p. refl) blob moment (λ p. refl) t.cached s.proxies held may.1 may.3
files-held-kept grace now s (keeps_doc id path document moment) t may held =
    held-same id_of (λ (p : Proxy). p.files) shown_row id (proxy_after (keeps_doc id path document moment)) (λ p. refl) s.proxies (λ p. refl) (λ x y. recorded_at x y t.cached) held
files-held-kept grace now s (adds_negative id path moment) t may held =
    held-same id_of (λ (p : Proxy). p.files) shown_row id (proxy_after (adds_negative id path moment)) (λ p. refl) s.proxies (λ p. refl) (λ x y. recorded_at x y t.cached) held
files-held-kept grace now s (clears_negative id path) t may held =
    held-same id_of (λ (p : Proxy). p.files) shown_row id (proxy_after (clears_negative id path)) (λ p. refl) s.proxies (λ p. refl) (λ x y. recorded_at x y t.cached) held
files-held-kept grace now s e t may held = held

-- documents: one more, in the place of the one at its path
pub document-then : (new : RecordedDocument) (id at : List ℕ) (documents : List RecordedDocument)
    → document_at id at (with_document new documents) ≡ (if is_place new.repo new.path id at then Some new else document_at id at documents)
document-then new id at documents =
    ap (document_at id at) (with_document-is new documents) ∙ find-placed (λ (d : RecordedDocument). d.repo) (λ (d : RecordedDocument). d.path) false id at new documents

kept-found : (path : List ℕ) (new : Kept) (kept : List Kept) → kept_at path (with_kept new kept) ≡ cond (bytes_eq new.path path) (Some new) (kept_at path kept)
kept-found path new kept = ap (kept_at path) (with_kept-is new kept) ∙ find-keyed (λ (k : Kept). k.path) false path new kept

pub documents-held-kept : (grace now : ℕ) (s : State) (e : Effect) (t : Tables) → May grace now s e → DocumentsHeld t.documents s.proxies → DocumentsHeld (with_items t (items_of e)).documents (with_effect s e).proxies
documents-held-kept grace now s (keeps_doc id path document moment) t may held =
    let new : RecordedDocument = record { repo = id; path = path; checked = moment; document = document } in
    let one : Kept = record { path = path; checked = moment; document = document } in
    let kept : List Kept = documents_in id s.proxies in
    held-then id_of (λ (p : Proxy). p.documents) shown_document id (proxy_after (keeps_doc id path document moment)) (λ p. refl) s.proxies path (with_kept one) (λ p. refl)
    (λ x y. document_at x y t.documents) (λ x y. document_at x y (with_document new t.documents)) (λ x y. Some new) (λ x y. document-then new x y t.documents)
    (λ y other. ap (option_map (recorded_kept id)) (kept-found y one kept ∙ ap (λ b. cond b (Some one) (kept_at y kept)) other))
    (sym (ap (option_map (recorded_kept id)) (kept-found path one kept ∙ ap (λ b. cond b (Some one) (kept_at path kept)) (is_itself path)))) may.1 held
documents-held-kept grace now s (caches id path blob moment) t may held =
    held-same id_of (λ (p : Proxy). p.documents) shown_document id (proxy_after (caches id path blob moment)) (λ p. refl) s.proxies (λ p. refl) (λ x y. document_at x y t.documents) held
documents-held-kept grace now s (adds_negative id path moment) t may held =
    held-same id_of (λ (p : Proxy). p.documents) shown_document id (proxy_after (adds_negative id path moment)) (λ p. refl) s.proxies (λ p. refl) (λ x y. document_at x y t.documents) held
documents-held-kept grace now s (clears_negative id path) t may held =
    held-same id_of (λ (p : Proxy). p.documents) shown_document id (proxy_after (clears_negative id path)) (λ p. refl) s.proxies (λ p. refl) (λ x y. document_at x y t.documents) held
documents-held-kept grace now s e t may held = held

-- the opening state's proxies keep nothing
no-part : {Y : Type 0} (part : Proxy → List Y) → ((rule : ProxyRule) → part (new_proxy rule) ≡ []) → (id : List ℕ) (rules : List ProxyRule) → option_map_or part (find (is_proxy id) (map new_proxy rules)) [] ≡ []
no-part part none id rules = all-part id_of part (λ list. list ≡ []) id (map new_proxy rules) refl (all-map new_proxy (λ (p : Proxy). part p ≡ []) none rules)

pub opening-files : (rules : List ProxyRule) → FilesHeld [] (map new_proxy rules)
opening-files rules id path there = ap (λ rows. option_map without_bytes (row_at path rows)) (sym (no-part (λ (p : Proxy). p.files) (λ rule. refl) id rules))

pub opening-documents : (rules : List ProxyRule) → DocumentsHeld [] (map new_proxy rules)
opening-documents rules id path there = ap (λ kept. option_map (recorded_kept id) (kept_at path kept)) (sym (no-part (λ (p : Proxy). p.documents) (λ rule. refl) id rules))
