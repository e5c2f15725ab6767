-- The files and documents of proxies that a start makes are the recorded ones.
use native.Mathlib.Omega.{arith}
use Rattle.std.proofs.Common.{◌≡◌, ◌≤◌, ℕ, true, false, cond, ◌&&◌, List, [], ◌∷◌, map, Option, Some, None, refl, sym, ◌∙◌, ap}
use Rattle.std.specs.Prelude.{◌==◌, filter, find, count_by, bytes_eq}
use Rattle.std.specs.Option.{option_map, option_map_or}
use Rattle.std.specs.List.{list_any}
use Rattle.std.proofs.lemmas.Option.{none-some}
use Rattle.repo_model.specs.Data.{Kept, Proxy}
use Rattle.repo_model.specs.Settings.{ProxyRule, Rule}
use Rattle.repo_model.specs.State.{is_proxy, row_at}
use Rattle.repo_model.specs.Proxies.{kept_at}
use Rattle.repo_model.specs.Tables.{Tables, RecordedRow, RecordedDocument}
use Rattle.repo_model.specs.Restart.{recorded_of, hosted_from, documents_of, proxy_from}
use Rattle.repo_laws.specs.Laws.{rows_with, cached_with, without_bytes}
use Rattle.repo_laws.specs.Sound.{AreNamedApart, AreProxiesApart}
use Rattle.repo_laws.specs.Files.{FilesHeld, DocumentsHeld, recorded_kept}
use Rattle.repo_laws.specs.Items.{document_at}
use Rattle.repo_laws.specs.InRange.{InRange}
use Rattle.repo_laws.proofs.Counts.{rows_with-cons}
use Rattle.repo_laws.proofs.Files.{cached_with-cons}
use Rattle.repo_laws.proofs.HoldingLists.{all-map}
use Rattle.repo_laws.proofs.Ranges.{cached-bare}
use Rattle.repo_laws.proofs.Releases.{same_path}
use Rattle.repo_laws.proofs.StartingRows.{of-found, held-rows, part-under}
use Rattle.repo_laws.proofs.StartedRows.{rows-named}

module _ (tells : ℕ → Option (List ℕ)) (t : Tables) where
  -- a part of the proxy of an id
  part-from : {X : Type 0} (part : Proxy → List X) (of : List ℕ → List X) → ((rule : ProxyRule) → part (proxy_from tells t rule) ≡ of rule.id) → (id : List ℕ) (rules : List ProxyRule)
      → list_any (is_proxy id) (map (proxy_from tells t) rules) ≡ true → option_map_or part (find (is_proxy id) (map (proxy_from tells t) rules)) [] ≡ of id
  part-from part of is id rules =
      part-under (λ (p : Proxy). p.rule.id) part of id (map (proxy_from tells t) rules) (all-map (proxy_from tells t) (λ (p : Proxy). part p ≡ of p.rule.id) is rules)

  pub started-files : InRange t → (rules : List ProxyRule) → FilesHeld t.cached (map (proxy_from tells t) rules)
  started-files range rules id path there =
      held-rows tells id path t.cached (cached-bare t range)
      ∙ ap (option_map without_bytes)
      (sym (ap (row_at path) (part-from (λ (p : Proxy). p.files) (recorded_of tells t.cached) (λ rule. refl) id rules there) ∙ of-found tells id path t.cached))

  abbrev kept_of : RecordedDocument → Kept
  kept_of d = record { path = d.path; checked = d.checked; document = d.document }

  same-document : (id : List ℕ) (d : RecordedDocument) → bytes_eq d.repo id ≡ true → recorded_kept id (kept_of d) ≡ d
  same-document id d is = ap (λ repo. record { repo = repo; path = d.path; checked = d.checked; document = d.document }) (sym (same_path d.repo id is))

  documents-told : (id path : List ℕ) (documents : List RecordedDocument) → document_at id path documents ≡ option_map (recorded_kept id) (kept_at path (documents_of documents id))
  documents-told id path [] = refl
  documents-told id path (d ∷ documents) =
      elim (bytes_eq d.repo id)
      as (λ b. bytes_eq d.repo id ≡ b → cond (b && bytes_eq d.path path) (Some d) (document_at id path documents)
      ≡ option_map (recorded_kept id) (kept_at path (map kept_of (cond b (d ∷ filter (λ (x : RecordedDocument). bytes_eq x.repo id) documents) (filter (λ (x : RecordedDocument). bytes_eq x.repo id) documents))))) [
        | true ↦ λ here. elim (bytes_eq d.path path)
            as (λ c. cond c (Some d) (document_at id path documents) ≡ option_map (recorded_kept id) (cond c (Some (kept_of d)) (kept_at path (documents_of documents id)))) [
              | true ↦ ap Some (sym (same-document id d here))
              | false ↦ documents-told id path documents
            ]
        | false ↦ λ _. documents-told id path documents
      ] refl

  pub started-documents : (rules : List ProxyRule) → DocumentsHeld t.documents (map (proxy_from tells t) rules)
  started-documents rules id path there =
      documents-told id path t.documents
      ∙ ap (λ kept. option_map (recorded_kept id) (kept_at path kept)) (sym (part-from (λ (p : Proxy). p.documents) (documents_of t.documents) (λ rule. refl) id rules there))

  -- how often their files name a blob
  abbrev as_rule : ProxyRule → Rule
  as_rule rule = record { id = rule.id; releases = false; snapshots = false; keep_count = 0; keep_days = 0 }

  as-hosted : (n : ℕ) (rules : List ProxyRule) → cached_with n (map (proxy_from tells t) rules) ≡ rows_with n (map (hosted_from tells t.cached) (map as_rule rules))
  as-hosted n [] = refl
  as-hosted n (rule ∷ rules) =
      omega (
        arith,
        cached_with-cons n (proxy_from tells t rule) (map (proxy_from tells t) rules),
        rows_with-cons n (hosted_from tells t.cached (as_rule rule)) (map (hosted_from tells t.cached) (map as_rule rules)),
        as-hosted n rules,
      )

  none-of : (id : List ℕ) (rules : List ProxyRule) → find (λ (other : ProxyRule). bytes_eq other.id id) rules ≡ None → find (λ (other : Rule). bytes_eq other.id id) (map as_rule rules) ≡ None
  none-of id [] none = refl
  none-of id (rule ∷ rules) none =
      elim (bytes_eq rule.id id) as (λ b. cond b (Some rule) (find (λ (other : ProxyRule). bytes_eq other.id id) rules) ≡ None → cond b (Some (as_rule rule)) (find (λ (other : Rule). bytes_eq other.id id) (map as_rule rules)) ≡ None) [
        | true ↦ λ found. absurd (none-some rule (sym found))
        | false ↦ λ later. none-of id rules later
      ] none

  apart-so : (rules : List ProxyRule) → AreProxiesApart rules → AreNamedApart (map as_rule rules)
  apart-so [] apart = tt
  apart-so (rule ∷ rules) apart = (none-of rule.id rules apart.0, apart-so rules apart.1)

  pub files-named : (n : ℕ) (rules : List ProxyRule) → AreProxiesApart rules → cached_with n (map (proxy_from tells t) rules) ≤ count_by (λ (r : RecordedRow). r.row.blob.number == n) t.cached
  files-named n rules apart = omega (arith, as-hosted n rules, rows-named tells n t.cached (map as_rule rules) (apart-so rules apart))
