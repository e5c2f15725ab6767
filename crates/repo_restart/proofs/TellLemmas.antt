-- Bytes that are told of the blobs of hosted rows, and of those of proxies' files, told together.
use native.Mathlib.Omega.{arith}
use Rattle.std.proofs.Common.{◌≡◌, ℕ, ◌+◌, ◌≤◌, Bool, true, false, cond, ◌||◌, List, [], ◌∷◌, map, filter, Option, Some, None, refl, sym, ap, ◌∙◌, bytes_eq}
use Rattle.std.specs.Prelude.{count_by, IfSome}
use Rattle.std.specs.List.{AllByRecursion, list_any}
use Rattle.std.proofs.lemmas.Bool.{eq-eqb}
use Rattle.std.proofs.lemmas.List.Sums.{sum_by-cons}
use Rattle.outside.specs.Blobs.{Shelf, Numbered, bytes_at}
use Rattle.repo_model.specs.Data.{Hosted, Proxy}
use Rattle.repo_model.specs.Restart.{documents_of, hosted_from, is_of, proxy_from, recorded_of, with_bytes}
use Rattle.repo_model.specs.Settings.{ProxyRule, Rule}
use Rattle.repo_model.specs.Tables.{RecordedRow, Tables}
use Rattle.repo_laws.specs.Holds.{named_in}
use Rattle.repo_restart.specs.Rows.{AreFilesRestored, AreRestored, AreRowsRestored, caching_from}
use Rattle.repo_restart.specs.Taking.{with_documents}
use Rattle.repo_restart.proofs.FrontLemmas.{names}

abbrev one_if : Bool → ℕ
one_if b = cond b 1 0

more : (n : ℕ) (r : RecordedRow) (rows : List RecordedRow) → count_by (names n) (r ∷ rows) ≡ one_if (names n r) + count_by (names n) rows
more n r rows = sum_by-cons (λ (x : RecordedRow). one_if (names n x)) r rows

-- ---- each row names its blob
or-more : (b c : Bool) → c ≡ true → (b || c) ≡ true
or-more true c is = refl
or-more false c is = is

lift-any : (r : RecordedRow) (rows xs : List RecordedRow) → AllByRecursion (λ (x : RecordedRow). list_any (names x.row.blob.number) rows ≡ true) xs
    → AllByRecursion (λ (x : RecordedRow). list_any (names x.row.blob.number) (r ∷ rows) ≡ true) xs
lift-any r rows [] all = tt
lift-any r rows (x ∷ xs) all = (or-more (names x.row.blob.number r) (list_any (names x.row.blob.number) rows) all.0, lift-any r rows xs all.1)

named-themselves : (rows : List RecordedRow) → AllByRecursion (λ (x : RecordedRow). list_any (names x.row.blob.number) rows ≡ true) rows
named-themselves [] = tt
named-themselves (r ∷ rows) =
    (ap (λ b. b || list_any (names r.row.blob.number) rows) (eq-eqb r.row.blob.number r.row.blob.number refl), lift-any r rows rows (named-themselves rows))

lift-count : (r : RecordedRow) (rows xs : List RecordedRow) → AllByRecursion (λ (x : RecordedRow). 1 ≤ count_by (names x.row.blob.number) rows) xs
    → AllByRecursion (λ (x : RecordedRow). 1 ≤ count_by (names x.row.blob.number) (r ∷ rows)) xs
lift-count r rows [] all = tt
lift-count r rows (x ∷ xs) all = (omega (arith, all.0, more x.row.blob.number r rows), lift-count r rows xs all.1)

counted-themselves : (rows : List RecordedRow) → AllByRecursion (λ (x : RecordedRow). 1 ≤ count_by (names x.row.blob.number) rows) rows
counted-themselves [] = tt
counted-themselves (r ∷ rows) =
    let n = r.row.blob.number in
    let here : one_if (names n r) ≡ 1 = ap one_if (eq-eqb n n refl) in
    (omega (arith, here, more n r rows), lift-count r rows rows (counted-themselves rows))

none-named : (n : ℕ) (rows : List RecordedRow) → count_by (names n) rows ≡ 0 → list_any (names n) rows ≡ false
none-named n [] none = refl
none-named n (r ∷ rows) none =
    elim (names n r) as (λ b. names n r ≡ b → (b || list_any (names n) rows) ≡ false) [
      | true ↦ λ is. let here : one_if (names n r) ≡ 1 = ap one_if is in absurd (omega (arith, here, none, more n r rows))
      | false ↦ λ is. let here : one_if (names n r) ≡ 0 = ap one_if is in none-named n rows (omega (arith, here, none, more n r rows))
    ] refl

-- ---- rows with the same bytes
same-bytes : (tells tells' : ℕ → Option (List ℕ)) (rows : List RecordedRow) → AllByRecursion (λ (r : RecordedRow). tells' r.row.blob.number ≡ tells r.row.blob.number) rows → (id : List ℕ)
    → recorded_of tells' rows id ≡ recorded_of tells rows id
same-bytes tells tells' [] all id = refl
same-bytes tells tells' (r ∷ rows) all id =
    let kept = filter (is_of id) rows in
    let now = λ (one : RecordedRow). with_bytes tells' one.row in
    let then = λ (one : RecordedRow). with_bytes tells one.row in
    let here : with_bytes tells' r.row ≡ with_bytes tells r.row = ap (λ (bytes : Option (List ℕ)). record r.row { blob = record r.row.blob { bytes = bytes } }) all.0 in
    elim (bytes_eq r.repo id) as (λ b. map now (cond b (r ∷ kept) kept) ≡ map then (cond b (r ∷ kept) kept)) [
      | true ↦ λ i. here i ∷ same-bytes tells tells' rows all.1 id i
      | false ↦ same-bytes tells tells' rows all.1 id
    ]

module _ (t : Tables) (apart : (n : ℕ) → named_in t n ≤ 1) (a b : ℕ → Option (List ℕ)) where
  -- those of hosted rows, else of the others
  abbrev both : ℕ → Option (List ℕ)
  both n = cond (list_any (names n) t.hosted) (a n) (b n)

  as-first : (rows : List RecordedRow) → AllByRecursion (λ (r : RecordedRow). list_any (names r.row.blob.number) t.hosted ≡ true) rows → AllByRecursion (λ (r : RecordedRow). both r.row.blob.number ≡ a r.row.blob.number) rows
  as-first [] all = tt
  as-first (r ∷ rows) all = (ap (λ c. cond c (a r.row.blob.number) (b r.row.blob.number)) all.0, as-first rows all.1)

  as-second : (rows : List RecordedRow) → AllByRecursion (λ (r : RecordedRow). 1 ≤ count_by (names r.row.blob.number) t.cached) rows → AllByRecursion (λ (r : RecordedRow). both r.row.blob.number ≡ b r.row.blob.number) rows
  as-second [] all = tt
  as-second (r ∷ rows) all =
      let n = r.row.blob.number in
      let none : count_by (names n) t.hosted ≡ 0 = omega (arith, apart n, all.0) in
      (ap (λ c. cond c (a n) (b n)) (none-named n t.hosted none), as-second rows all.1)

  hosted-same : (rules : List Rule) → map (hosted_from a t.hosted) rules ≡ map (hosted_from both t.hosted) rules
  hosted-same [] = refl
  hosted-same (rule ∷ rules) =
      let rows = sym (same-bytes a both t.hosted (as-first t.hosted (named-themselves t.hosted)) rule.id) in
      λ i. record { rule = rule; rows = rows i } ∷ hosted-same rules i

  files-same : (id : List ℕ) → recorded_of b t.cached id ≡ recorded_of both t.cached id
  files-same id = sym (same-bytes b both t.cached (as-second t.cached (counted-themselves t.cached)) id)

  proxies-same : (rules : List ProxyRule) → with_documents t.documents (map (caching_from b t.cached) rules) ≡ map (proxy_from both t) rules
  proxies-same [] = refl
  proxies-same (rule ∷ rules) =
      let files = files-same rule.id in
      λ i. record { rule = rule; files = files i; documents = documents_of t.documents rule.id; negatives = [] } ∷ proxies-same rules i

  stand-both : (blobs : Option Numbered) → IfSome blobs (λ them. (n : ℕ) → a n ≡ bytes_at n them) → IfSome blobs (λ them. (n : ℕ) → b n ≡ bytes_at n them)
      → IfSome blobs (λ them. (n : ℕ) → both n ≡ bytes_at n them)
  stand-both None first second = tt
  stand-both (Some them) first second = λ n. elim (list_any (names n) t.hosted) as (λ c. cond c (a n) (b n) ≡ bytes_at n them) [ true ↦ first n | false ↦ second n ]

-- the repositories and proxies with the rows, and then with the documents
pub restored-all : (shelf : Shelf) (t : Tables) (rules : List Rule) (proxy_rules : List ProxyRule) (repos : List Hosted) (proxies proxies' : List Proxy) → ((n : ℕ) → named_in t n ≤ 1)
    → AreRowsRestored shelf t.hosted rules repos → AreFilesRestored shelf t.cached proxy_rules proxies → proxies' ≡ with_documents t.documents proxies
    → AreRestored shelf t rules proxy_rules repos proxies'
restored-all shelf t rules proxy_rules repos proxies proxies' apart hosted cached documents = record {
  tells = both t apart hosted.tells cached.tells;
  standing = stand-both t apart hosted.tells cached.tells shelf.blobs hosted.standing cached.standing;
  made = hosted.made ∙ hosted-same t apart hosted.tells cached.tells rules;
  kept = documents ∙ ap (with_documents t.documents) cached.made ∙ proxies-same t apart hosted.tells cached.tells proxy_rules;
}

-- proxies that have their files keep no documents yet, and have the ids of their rules
pub none-kept : (tells : ℕ → Option (List ℕ)) (rows : List RecordedRow) (rules : List ProxyRule) → AllByRecursion (λ (p : Proxy). p.documents ≡ []) (map (caching_from tells rows) rules)
none-kept tells rows [] = tt
none-kept tells rows (rule ∷ rules) = (refl, none-kept tells rows rules)

pub rules-kept : (tells : ℕ → Option (List ℕ)) (rows : List RecordedRow) (rules : List ProxyRule) → map (λ (p : Proxy). p.rule) (map (caching_from tells rows) rules) ≡ rules
rules-kept tells rows [] = refl
rules-kept tells rows (rule ∷ rules) = ap (λ rest. rule ∷ rest) (rules-kept tells rows rules)
