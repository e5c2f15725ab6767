-- Proxies that have the files so far have them and one more, once it is taken up: as repositories of these rows.
use Rattle.std.proofs.Common.{◌≡◌, ℕ, Bool, true, false, cond, List, [], ◌∷◌, map, find, Option, Some, None, refl, sym, ap, ◌∙◌, subst, bytes_eq}
use Rattle.std.specs.Option.{option_map_or}
use Rattle.std.proofs.lemmas.Option.{none-some}
use Rattle.outside.specs.Blobs.{Shelf}
use Rattle.repo_model.specs.Data.{Hosted, Proxy}
use Rattle.repo_model.specs.Effect.{with_row}
use Rattle.repo_model.specs.Prints.{lacks_further}
use Rattle.repo_model.specs.Restart.{hosted_from, recorded_of}
use Rattle.repo_model.specs.Settings.{ProxyRule, Rule}
use Rattle.repo_model.specs.State.{is_proxy, is_repository, new_hosted, new_proxy}
use Rattle.repo_model.specs.Tables.{RecordedRow}
use Rattle.repo_laws.specs.Files.{files_in}
use Rattle.repo_laws.specs.Sound.{AreNamedApart, AreProxiesApart}
use Rattle.blob_audit.specs.Order.{File}
use Rattle.repo_restart.specs.Rows.{AreFilesRestored, AreRowsRestored, caching_from}
use Rattle.repo_restart.specs.Taking.{CanTake, holding, rows_in, with_cached, with_taken}
use Rattle.repo_restart.proofs.RestoreLemmas.{none-restored}

-- a proxy's files as the rows of a repository, and the proxy without them
abbrev pub as_rule : ProxyRule → Rule
as_rule rule = record { id = rule.id; releases = false; snapshots = false; keep_count = 0; keep_days = 0 }

abbrev pub as_hosted : Proxy → Hosted
as_hosted p = record { rule = as_rule p.rule; rows = p.files }

abbrev pub bare : Proxy → Proxy
bare p = record p { files = [] }

-- the files so far have come back, and the proxies keep nothing else
pub record CachedSoFar (shelf : Shelf) (rows : List RecordedRow) (rules : List ProxyRule) (proxies : List Proxy) : Type 0 where
  pub restored : AreRowsRestored shelf rows (map as_rule rules) (map as_hosted proxies)
  pub others : map bare proxies ≡ map new_proxy rules

-- ---- none yet
new-rows : (rules : List ProxyRule) → map as_hosted (map new_proxy rules) ≡ map new_hosted (map as_rule rules)
new-rows [] = refl
new-rows (rule ∷ rules) = ap (λ rest. new_hosted (as_rule rule) ∷ rest) (new-rows rules)

new-bare : (rules : List ProxyRule) → map bare (map new_proxy rules) ≡ map new_proxy rules
new-bare [] = refl
new-bare (rule ∷ rules) = ap (λ rest. new_proxy rule ∷ rest) (new-bare rules)

pub none-cached : (shelf : Shelf) (rules : List ProxyRule) (proxies : List Proxy) → proxies ≡ map new_proxy rules → CachedSoFar shelf [] rules proxies
none-cached shelf rules proxies is = record {
  restored = subst (AreRowsRestored shelf [] (map as_rule rules)) (sym (ap (map as_hosted) is ∙ new-rows rules)) (none-restored shelf (map as_rule rules));
  others = ap (map bare) is ∙ new-bare rules;
}

-- ---- one more
pub taken-rows : (r : RecordedRow) (bytes : Option (List ℕ)) (proxies : List Proxy) → map as_hosted (with_cached r bytes proxies) ≡ with_taken r bytes (map as_hosted proxies)
taken-rows r bytes [] = refl
taken-rows r bytes (p ∷ proxies) =
    let more : Proxy = record p { files = with_row (holding bytes r.row) p.files } in
    elim (bytes_eq p.rule.id r.repo)
    as (λ b. map as_hosted (cond b (more ∷ proxies) (p ∷ with_cached r bytes proxies)) ≡ cond b (as_hosted more ∷ map as_hosted proxies) (as_hosted p ∷ with_taken r bytes (map as_hosted proxies))) [
      | true ↦ refl
      | false ↦ ap (λ rest. as_hosted p ∷ rest) (taken-rows r bytes proxies)
    ]

pub taken-bare : (r : RecordedRow) (bytes : Option (List ℕ)) (proxies : List Proxy) → map bare (with_cached r bytes proxies) ≡ map bare proxies
taken-bare r bytes [] = refl
taken-bare r bytes (p ∷ proxies) =
    let more : Proxy = record p { files = with_row (holding bytes r.row) p.files } in
    elim (bytes_eq p.rule.id r.repo) as (λ b. map bare (cond b (more ∷ proxies) (p ∷ with_cached r bytes proxies)) ≡ bare p ∷ map bare proxies) [
      | true ↦ refl
      | false ↦ ap (λ rest. bare p ∷ rest) (taken-bare r bytes proxies)
    ]

pub rows-are-files : (id : List ℕ) (proxies : List Proxy) → rows_in id (map as_hosted proxies) ≡ files_in id proxies
rows-are-files id [] = refl
rows-are-files id (p ∷ proxies) =
    elim (bytes_eq p.rule.id id)
    as (λ b. option_map_or (λ (h : Hosted). h.rows) (cond b (Some (as_hosted p)) (find (is_repository id) (map as_hosted proxies))) []
    ≡ option_map_or (λ (q : Proxy). q.files) (cond b (Some p) (find (is_proxy id) proxies)) []) [
      | true ↦ refl
      | false ↦ rows-are-files id proxies
    ]

none-of : (id : List ℕ) (rules : List ProxyRule) → find (λ (other : ProxyRule). bytes_eq other.id id) rules ≡ None → find (λ (other : Rule). bytes_eq other.id id) (map as_rule rules) ≡ None
none-of id [] none = refl
none-of id (rule ∷ rules) none =
    elim (bytes_eq rule.id id) as (λ b. cond b (Some rule) (find (λ (other : ProxyRule). bytes_eq other.id id) rules) ≡ None → cond b (Some (as_rule rule)) (find (λ (other : Rule). bytes_eq other.id id) (map as_rule rules)) ≡ None) [
      | true ↦ λ found. absurd (none-some rule (sym found))
      | false ↦ λ later. none-of id rules later
    ] none

pub apart-so : (rules : List ProxyRule) → AreProxiesApart rules → AreNamedApart (map as_rule rules)
apart-so [] apart = tt
apart-so (rule ∷ rules) apart = (none-of rule.id rules apart.0, apart-so rules apart.1)

-- ---- all of them
abbrev first_or : {X : Type 0} → X → List X → X
first_or x [] = x
first_or x (y ∷ ys) = y

abbrev rest_of : {X : Type 0} → List X → List X
rest_of [] = []
rest_of (y ∷ ys) = ys

head-same : {X : Type 0} (x y : X) (xs ys : List X) → x ∷ xs ≡ y ∷ ys → x ≡ y
head-same x y xs ys same = ap (first_or x) same

rest-same : {X : Type 0} (x y : X) (xs ys : List X) → x ∷ xs ≡ y ∷ ys → xs ≡ ys
rest-same x y xs ys same = ap rest_of same

made-of : (tells : ℕ → Option (List ℕ)) (rows : List RecordedRow) (rules : List ProxyRule) (proxies : List Proxy) → map as_hosted proxies ≡ map (hosted_from tells rows) (map as_rule rules)
    → map bare proxies ≡ map new_proxy rules → proxies ≡ map (caching_from tells rows) rules
made-of tells rows [] [] made others = refl
made-of tells rows [] (p ∷ proxies) made others = absurd (cc)
made-of tells rows (rule ∷ rules) [] made others = absurd (cc)
made-of tells rows (rule ∷ rules) (p ∷ proxies) made others =
    let files : p.files ≡ recorded_of tells rows rule.id = ap (λ (h : Hosted). h.rows) (head-same (as_hosted p) (hosted_from tells rows (as_rule rule)) (map as_hosted proxies) (map (hosted_from tells rows) (map as_rule rules)) made) in
    let other : bare p ≡ new_proxy rule = head-same (bare p) (new_proxy rule) (map bare proxies) (map new_proxy rules) others in
    let same_rule : p.rule ≡ rule = ap (λ (q : Proxy). q.rule) other in
    let same_documents : p.documents ≡ [] = ap (λ (q : Proxy). q.documents) other in
    let same_negatives : p.negatives ≡ [] = ap (λ (q : Proxy). q.negatives) other in
    let rest = made-of tells rows rules proxies (rest-same (as_hosted p) (hosted_from tells rows (as_rule rule)) (map as_hosted proxies) (map (hosted_from tells rows) (map as_rule rules)) made)
    (rest-same (bare p) (new_proxy rule) (map bare proxies) (map new_proxy rules) others) in
    λ i. record { rule = same_rule i; files = files i; documents = same_documents i; negatives = same_negatives i } ∷ rest i

pub files-restored : (shelf : Shelf) (rows : List RecordedRow) (rules : List ProxyRule) (proxies : List Proxy) → CachedSoFar shelf rows rules proxies → AreFilesRestored shelf rows rules proxies
files-restored shelf rows rules proxies all = record {
  tells = all.restored.tells;
  standing = all.restored.standing;
  made = made-of all.restored.tells rows rules proxies all.restored.made all.others;
}

-- a file that can be taken up has all its digests
pub all-digests : (f : File) (repos : List Hosted) (proxies : List Proxy) → CanTake f repos proxies → lacks_further f.row.row.blob.print ≡ false
all-digests f repos proxies can = by f.is_hosted refl
  where
    by : (b : Bool) → f.is_hosted ≡ b → lacks_further f.row.row.blob.print ≡ false
    by true hosted = (can.0 hosted).3
    by false foreign = (can.1 foreign).3
