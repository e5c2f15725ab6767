-- Rows stand in byte order of path, each path once, whatever effects are made.
use Rattle.std.proofs.Common.{◌≡◌, ℕ, Bool, true, false, not, cond, List, [], ◌∷◌, Option, Some, None, refl, sym, ◌∙◌, ap, subst}
use Rattle.std.specs.Prelude.{filter, find}
use Rattle.std.specs.Option.{option_map_or}
use Rattle.std.specs.List.{AllByRecursion}
use Rattle.std.specs.List.Sorted.{IsStrictlySortedBy}
use Rattle.std.specs.Ordering.{nat_cmp}
use Rattle.std.specs.declared.cmp.Ordering.TheVariants.{Less, Equal}
use Rattle.std.specs.Cmp.Lexicographic.{slice_cmp, nat_list_cmp_total}
use Rattle.std.proofs.lemmas.Cmp.{tied_itself}
use Rattle.repo_model.specs.Data.{Row, Hosted, Proxy}
use Rattle.repo_model.specs.State.{State, change_where, change_first, is_repository, is_proxy, is_row, row_at, rows_of}
use Rattle.repo_model.specs.Effect.{Effect, creates, delivers, relists, fades, expires, caches, keeps_doc, adds_negative, clears_negative, with_row, new_row, list_again, fade, without_row, proxy_after, with_effect}
use Rattle.repo_model.specs.May.{May}
use Rattle.repo_laws.specs.Sound.{IsBelow, AreByPath}
use Rattle.repo_laws.proofs.Files.{proxies-keep}
use Rattle.repo_laws.proofs.HoldingLists.{none-any}
use Rattle.repo_laws.proofs.Inserted.{row_order, key-order, free-keyed, with_row-is, inserted-ordered, change-ordered, filter-ordered}
use Rattle.repo_laws.proofs.Lists.{all-then}
use Rattle.repo_laws.proofs.Rows.{RowsApart, rows_in, other_path}

-- rows in order lie apart
above-none : (path : List ℕ) (rows : List Row) → AllByRecursion (λ (r : Row). IsBelow path r) rows → row_at path rows ≡ None
above-none path rows above =
    none-any (is_row path) rows
    (all-then (λ (r : Row). IsBelow path r) (λ (r : Row). is_row path r ≡ false)
    (λ r below. other_path r.path path (λ same.
    let tied : slice_cmp nat_cmp path r.path ≡ Equal = ap (λ p. slice_cmp nat_cmp path p) same ∙ tied_itself nat_list_cmp_total path in
    let wrong : Less ≡ Equal = sym below ∙ tied in cc))
    rows above)

pub by-path-apart : (rows : List Row) → AreByPath rows → RowsApart rows
by-path-apart [] order = tt
by-path-apart (row ∷ rows) order = (above-none row.path rows order.0, by-path-apart rows order.1)

-- they rise strictly by their paths, and rows that do so are in order
rises : (rows : List Row) → AreByPath rows → IsStrictlySortedBy row_order rows
unfolding IsStrictlySortedBy
rises [] order = tt
rises (row ∷ rows) order = (order.0, rises rows order.1)

risen : (rows : List Row) → IsStrictlySortedBy row_order rows → AreByPath rows
unfolding IsStrictlySortedBy
risen [] order = tt
risen (row ∷ rows) order = (order.0, risen rows order.1)

with_row-by-path : (new : Row) (rows : List Row) → row_at new.path rows ≡ None → AreByPath rows → AreByPath (with_row new rows)
with_row-by-path new rows free order =
    risen (with_row new rows) (subst (IsStrictlySortedBy row_order) (sym (with_row-is new rows))
    (inserted-ordered row_order (key-order (λ (r : Row). r.path)) true new rows (λ _. free-keyed (λ (r : Row). r.path) new rows free) (rises rows order)))

change-by-path : (q : Row → Bool) (f : Row → Row) → ((r : Row) → (f r).path ≡ r.path) → (rows : List Row) → AreByPath rows → AreByPath (change_where q f rows)
change-by-path q f keeps rows order =
    risen (change_where q f rows)
    (change-ordered row_order q f (λ x y. ap (λ p. slice_cmp nat_cmp p y.path) (keeps x)) (λ x y. ap (λ p. slice_cmp nat_cmp x.path p) (keeps y)) rows (rises rows order))

filter-by-path : (q : Row → Bool) (rows : List Row) → AreByPath rows → AreByPath (filter q rows)
filter-by-path q rows order = risen (filter q rows) (filter-ordered row_order (key-order (λ (r : Row). r.path)) q rows (rises rows order))

-- what the rows of each repository have, they have once those of one are changed in a way that keeps it
pub hosted-keeps : (P : List Row → Type 0) (at : List ℕ) (f : List Row → List Row) (hosted : List Hosted) → (P (rows_in at hosted) → P (f (rows_in at hosted)))
    → AllByRecursion (λ (h : Hosted). P h.rows) hosted → AllByRecursion (λ (h : Hosted). P h.rows) (change_first (is_repository at) (λ h. record h { rows = f h.rows }) hosted)
hosted-keeps P at f [] keeps all = tt
hosted-keeps P at f (h ∷ hosted) keeps all =
    let Kept : List Row → Type 0 = λ rows. P rows → P (f rows) in
    elim (is_repository at h)
    as (λ b. Kept (option_map_or (λ (g : Hosted). g.rows) (cond b (Some h) (find (is_repository at) hosted)) [])
    → AllByRecursion (λ (g : Hosted). P g.rows) (cond b (record h { rows = f h.rows } ∷ hosted) (h ∷ change_first (is_repository at) (λ g. record g { rows = f g.rows }) hosted))) [
      | true ↦ λ here. (here all.0, all.1)
      | false ↦ λ later. (all.0, hosted-keeps P at f hosted later all.1)
    ] keeps

pub rows-kept : (grace now : ℕ) (s : State) (e : Effect) → May grace now s e → AllByRecursion (λ (h : Hosted). AreByPath h.rows) s.hosted → AllByRecursion (λ (h : Hosted). AreByPath h.rows) (with_effect s e).hosted
rows-kept grace now s (creates repo path blob moment) may all = hosted-keeps AreByPath repo (with_row (new_row path blob moment)) s.hosted (with_row-by-path (new_row path blob moment) (rows_of repo s) may.3) all
rows-kept grace now s (delivers n repo path blob moment) may all = hosted-keeps AreByPath repo (with_row (new_row path blob moment)) s.hosted (with_row-by-path (new_row path blob moment) (rows_of repo s) may.5) all
rows-kept grace now s (relists repo path moment) may all = hosted-keeps AreByPath repo (change_where (is_row path) (list_again moment)) s.hosted (change-by-path (is_row path) (list_again moment) (λ r. refl) (rows_of repo s)) all
rows-kept grace now s (fades repo path moment) may all = hosted-keeps AreByPath repo (change_where (is_row path) (fade moment)) s.hosted (change-by-path (is_row path) (fade moment) (λ r. refl) (rows_of repo s)) all
rows-kept grace now s (expires repo path blob) may all = hosted-keeps AreByPath repo (without_row path) s.hosted (filter-by-path (λ row. not (is_row path row)) (rows_of repo s)) all
rows-kept grace now s e may all = all

-- and so do the cached files of each proxy
pub files-kept : (grace now : ℕ) (s : State) (e : Effect) → May grace now s e → AllByRecursion (λ (p : Proxy). AreByPath p.files) s.proxies → AllByRecursion (λ (p : Proxy). AreByPath p.files) (with_effect s e).proxies
files-kept grace now s (caches id path blob moment) may all =
    proxies-keep (λ (p : Proxy). AreByPath p.files) (is_proxy id) (proxy_after (caches id path blob moment)) s.proxies
    (λ p found order.
    let free : row_at path p.files ≡ None = subst (λ (x : Option Proxy). row_at path (option_map_or (λ (q : Proxy). q.files) x []) ≡ None) found may.3 in
    with_row-by-path (new_row path blob moment) p.files free order)
    all
files-kept grace now s (keeps_doc id path document moment) may all =
    proxies-keep (λ (p : Proxy). AreByPath p.files) (is_proxy id) (proxy_after (keeps_doc id path document moment)) s.proxies (λ p found order. order) all
files-kept grace now s (adds_negative id path moment) may all =
    proxies-keep (λ (p : Proxy). AreByPath p.files) (is_proxy id) (proxy_after (adds_negative id path moment)) s.proxies (λ p found order. order) all
files-kept grace now s (clears_negative id path) may all =
    proxies-keep (λ (p : Proxy). AreByPath p.files) (is_proxy id) (proxy_after (clears_negative id path)) s.proxies (λ p found order. order) all
files-kept grace now s e may all = all

-- the rows of each repository lie apart
pub all-apart : (hosted : List Hosted) → AllByRecursion (λ (h : Hosted). AreByPath h.rows) hosted → AllByRecursion (λ (h : Hosted). RowsApart h.rows) hosted
all-apart hosted = all-then (λ (h : Hosted). AreByPath h.rows) (λ (h : Hosted). RowsApart h.rows) (λ h. by-path-apart h.rows) hosted
