-- The documents and negative entries of proxies stay in order, and there are never too many negative entries.
use native.Mathlib.Omega.{arith}
use Rattle.std.proofs.Common.{◌≡◌, ◌<◌, ◌≤◌, ◌+◌, ◌⊎◌, inl, inr, ℕ, Bool, true, false, not, cond, ◌||◌, List, [], ◌∷◌, map, length, Option, Some, None, refl, sym, ◌∙◌, ap, subst}
use Rattle.std.specs.Prelude.{filter, find, fold, nat_le, bytes_eq, if◌then◌else◌}
use Rattle.std.specs.List.{AllByRecursion, list_any}
use Rattle.std.specs.List.Sorted.{IsStrictlySortedBy}
use Rattle.std.specs.Ordering.{nat_cmp, match_ordering, ordering_then}
use Rattle.std.specs.Cmp.{IsTotalOrder, on_total}
use Rattle.std.specs.Cmp.Lexicographic.{slice_cmp, nat_list_cmp_total}
use Rattle.std.specs.declared.cmp.Ordering.{Ordering}
use Rattle.std.specs.declared.cmp.Ordering.TheVariants.{Less, Equal, Greater}
use Rattle.std.proofs.lemmas.Bool.{false≢true, or_left, or_right, leb-true, leb-false}
use Rattle.std.proofs.lemmas.Cmp.{tied_itself}
use Rattle.std.proofs.lemmas.List.Sums.{count_by-le-length, length-filter}
use Rattle.std.proofs.lemmas.Option.{none-some}
use Rattle.outside.specs.Moments.{Moments}
use Rattle.repo_model.specs.Data.{Kept, NegativeEntry, Proxy}
use Rattle.repo_model.specs.Settings.{ProxyRule, Settings}
use Rattle.repo_model.specs.State.{State, is_negative_of, is_proxy, new_proxy, opening}
use Rattle.repo_model.specs.Effect.{Effect, caches, keeps_doc, adds_negative, clears_negative, with_kept, without_negative, is_older, older, without_oldest, most_negatives, with_room, insert_negative, with_negative, proxy_after, with_effect, with_effects}
use Rattle.repo_model.specs.Tables.{Tables, RecordedDocument}
use Rattle.repo_model.specs.Restart.{documents_of, proxy_from, started}
use Rattle.repo_model.specs.History.{Entry, ticked, effects_of, after, end}
use Rattle.repo_laws.specs.Holds.{document_cmp, InOrder}
use Rattle.repo_laws.proofs.HoldingLists.{all-change_first, find-gone, none-filter}
use Rattle.repo_laws.proofs.Inserted.{inserted, inserted-ordered, filter-ordered, free-keyed, with_kept-is}
use Rattle.repo_laws.proofs.Releases.{is_itself, same_path}
use Rattle.proxy_laws.specs.Limits.{kept_cmp, negative_cmp, KeepsLimits, KeepLimits}

kept-order : IsTotalOrder kept_cmp
kept-order = on_total (λ (k : Kept). k.path) nat_list_cmp_total

negatives-order : IsTotalOrder negative_cmp
negatives-order = on_total (λ (m : NegativeEntry). m.path) nat_list_cmp_total

none-rise : {K : Type 0} (c : K → K → Ordering) → IsStrictlySortedBy c []
unfolding IsStrictlySortedBy
none-rise c = tt

-- one more document, in the place of the one at its path
with_kept-ordered : (new : Kept) (kept : List Kept) → IsStrictlySortedBy kept_cmp kept → IsStrictlySortedBy kept_cmp (with_kept new kept)
with_kept-ordered new kept rising =
    subst (IsStrictlySortedBy kept_cmp) (sym (with_kept-is new kept)) (inserted-ordered kept_cmp kept-order false new kept (λ is. absurd (false≢true is)) rising)

-- one more negative entry, where there is none at its path
insert_negative-is : (new : NegativeEntry) (negatives : List NegativeEntry) → insert_negative new negatives ≡ inserted negative_cmp true new negatives
insert_negative-is new [] = refl
insert_negative-is new (m ∷ negatives) = ap (λ rest. match_ordering (negative_cmp new m) (new ∷ m ∷ negatives) (new ∷ m ∷ negatives) (m ∷ rest)) (insert_negative-is new negatives)

insert-ordered : (new : NegativeEntry) (negatives : List NegativeEntry) → find (is_negative_of new.path) negatives ≡ None → IsStrictlySortedBy negative_cmp negatives → IsStrictlySortedBy negative_cmp (insert_negative new negatives)
insert-ordered new negatives free rising =
    subst (IsStrictlySortedBy negative_cmp) (sym (insert_negative-is new negatives))
    (inserted-ordered negative_cmp negatives-order true new negatives (λ _. free-keyed (λ (m : NegativeEntry). m.path) new negatives free) rising)

insert-length : (new : NegativeEntry) (negatives : List NegativeEntry) → length (insert_negative new negatives) ≡ length negatives + 1
insert-length new [] = refl
insert-length new (m ∷ negatives) =
    elim (slice_cmp nat_cmp new.path m.path)
    as (λ o. length (match_ordering o (new ∷ m ∷ negatives) (new ∷ m ∷ negatives) (m ∷ insert_negative new negatives)) ≡ length (m ∷ negatives) + 1) [
      | Less ↦ omega arith
      | Equal ↦ omega arith
      | Greater ↦ omega (arith, insert-length new negatives)
    ]

module _ {X : Type 0} where
  fewer : (q : X → Bool) (xs : List X) → length (filter q xs) ≤ length xs
  fewer q xs = omega (arith, length-filter q xs, count_by-le-length q xs)

  -- where one passes a test, fewer do not
  one-less : (q : X → Bool) (xs : List X) → list_any q xs ≡ true → length (filter (λ x. not (q x)) xs) < length xs
  one-less q [] any = absurd (false≢true any)
  one-less q (x ∷ xs) any =
      let gone : X → Bool = λ y. not (q y) in
      elim (q x) as (λ b. (b || list_any q xs) ≡ true → length (cond (not b) (x ∷ filter gone xs) (filter gone xs)) < length (x ∷ xs)) [
        | true ↦ λ _. omega (arith, fewer gone xs)
        | false ↦ λ later. omega (arith, one-less q xs later)
      ] any

-- the oldest negative entry is one of them
negative-there : (x m : NegativeEntry) → x ≡ m → is_negative_of m.path x ≡ true
negative-there x m same = subst (λ (y : NegativeEntry). is_negative_of y.path x ≡ true) same (is_itself x.path)

abbrev Among : List NegativeEntry → NegativeEntry → Option NegativeEntry → Type 0
Among negatives m best = (best ≡ Some m) ⊎ (list_any (is_negative_of m.path) negatives ≡ true)

module _ (negatives : List NegativeEntry) (x m : NegativeEntry) where
  newer : (best : Option NegativeEntry) → Among negatives m (Some x) → Among (x ∷ negatives) m best
  newer best (inl here) = let same : x ≡ m = cc in inr (or_left (is_negative_of m.path x) (list_any (is_negative_of m.path) negatives) (negative-there x m same))
  newer best (inr later) = inr (or_right (is_negative_of m.path x) (list_any (is_negative_of m.path) negatives) later)

  as-old : (best : NegativeEntry) → Among negatives m (Some best) → Among (x ∷ negatives) m (Some best)
  as-old best (inl here) = inl here
  as-old best (inr later) = inr (or_right (is_negative_of m.path x) (list_any (is_negative_of m.path) negatives) later)

oldest : (negatives : List NegativeEntry) (best : Option NegativeEntry) (m : NegativeEntry) → fold older best negatives ≡ Some m → Among negatives m best
oldest [] best m is = inl is
oldest (x ∷ negatives) None m is = newer negatives x m None (oldest negatives (Some x) m is)
oldest (x ∷ negatives) (Some best) m is =
    elim (is_older x best) as (λ b. fold older (Some (if b then x else best)) negatives ≡ Some m → Among (x ∷ negatives) m (Some best)) [
      | true ↦ λ now. newer negatives x m (Some best) (oldest negatives (Some x) m now)
      | false ↦ λ now. as-old negatives x m best (oldest negatives (Some best) m now)
    ] is

some-oldest : (negatives : List NegativeEntry) (best : NegativeEntry) → fold older (Some best) negatives ≡ None → ⊥
some-oldest [] best is = none-some best (sym is)
some-oldest (x ∷ negatives) best is = some-oldest negatives (if is_older x best then x else best) is

none-empty : (negatives : List NegativeEntry) → fold older None negatives ≡ None → length negatives ≡ 0
none-empty [] is = refl
none-empty (x ∷ negatives) is = absurd (some-oldest negatives x is)

-- room for one more
oldest-gone : (negatives : List NegativeEntry) → most_negatives ≤ length negatives → (found : Option NegativeEntry) → fold older None negatives ≡ found → length (without_oldest found negatives) < length negatives
oldest-gone negatives many None none = omega (arith, many, none-empty negatives none)
oldest-gone negatives many (Some m) is = by (oldest negatives None m is) where
  by : (None ≡ Some m) ⊎ (list_any (is_negative_of m.path) negatives ≡ true) → length (without_negative m.path negatives) < length negatives
  by (inl never) = absurd (none-some m never)
  by (inr there) = one-less (is_negative_of m.path) negatives there

module _ (negatives : List NegativeEntry) where
  room-few : length negatives ≤ most_negatives → length (with_room negatives) < most_negatives
  room-few few =
      elim (nat_le most_negatives (length negatives))
      as (λ b. nat_le most_negatives (length negatives) ≡ b → length (if b then without_oldest (fold older None negatives) negatives else negatives) < most_negatives) [
        | true ↦ λ is. omega (arith, few, oldest-gone negatives (leb-true most_negatives (length negatives) is) (fold older None negatives) refl)
        | false ↦ λ is. omega (arith, leb-false most_negatives (length negatives) is)
      ] refl

  without-keeps : (P : List NegativeEntry → Type 0) → ((q : NegativeEntry → Bool) → P (filter q negatives)) → P negatives → (found : Option NegativeEntry) → P (without_oldest found negatives)
  without-keeps P so here None = here
  without-keeps P so here (Some m) = so (λ x. not (is_negative_of m.path x))

  -- what negative entries have, and some of them, those with room have
  room-keeps : (P : List NegativeEntry → Type 0) → ((q : NegativeEntry → Bool) → P (filter q negatives)) → P negatives → P (with_room negatives)
  room-keeps P so here =
      elim (nat_le most_negatives (length negatives)) as (λ b. P (if b then without_oldest (fold older None negatives) negatives else negatives)) [
        | true ↦ without-keeps P so here (fold older None negatives)
        | false ↦ here
      ]

negatives-limits : (new : NegativeEntry) (negatives : List NegativeEntry) → IsStrictlySortedBy negative_cmp negatives → length negatives ≤ most_negatives
    → IsStrictlySortedBy negative_cmp (with_negative new negatives) × (length (with_negative new negatives) ≤ most_negatives)
negatives-limits new negatives rising few =
    let rest : List NegativeEntry = without_negative new.path negatives in
    let ordered : IsStrictlySortedBy negative_cmp rest = filter-ordered negative_cmp negatives-order (λ m. not (is_negative_of new.path m)) negatives rising in
    let free : find (is_negative_of new.path) rest ≡ None = find-gone (is_negative_of new.path) negatives in
    let room_free : find (is_negative_of new.path) (with_room rest) ≡ None =
    room-keeps rest (λ xs. find (is_negative_of new.path) xs ≡ None) (λ q. none-filter (is_negative_of new.path) q rest free) free in
    let room_ordered : IsStrictlySortedBy negative_cmp (with_room rest) =
    room-keeps rest (IsStrictlySortedBy negative_cmp) (λ q. filter-ordered negative_cmp negatives-order q rest ordered) ordered in (
      insert-ordered new (with_room rest) room_free room_ordered,
      omega (arith, insert-length new (with_room rest), room-few rest (omega (arith, few, fewer (λ (m : NegativeEntry). not (is_negative_of new.path m)) negatives))),
    )

-- each effect at a proxy
document-limits : (p : Proxy) (new : Kept) → KeepsLimits p → KeepsLimits (record p { documents = with_kept new p.documents })
document-limits p new old = record { documents = with_kept-ordered new p.documents old.documents; negatives = old.negatives; few = old.few }

negative-limits : (p : Proxy) (new : NegativeEntry) → KeepsLimits p → KeepsLimits (record p { negatives = with_negative new p.negatives })
negative-limits p new old =
    let (ordered, few) = negatives-limits new p.negatives old.negatives old.few in
    record { documents = old.documents; negatives = ordered; few = few }

remove_negative-limits : (p : Proxy) (path : List ℕ) → KeepsLimits p → KeepsLimits (record p { negatives = without_negative path p.negatives })
remove_negative-limits p path old = record {
  documents = old.documents;
  negatives = filter-ordered negative_cmp negatives-order (λ m. not (is_negative_of path m)) p.negatives old.negatives;
  few = omega (arith, old.few, fewer (λ (m : NegativeEntry). not (is_negative_of path m)) p.negatives);
}

pub effect-limits : (s : State) (e : Effect) → KeepLimits s → KeepLimits (with_effect s e)
effect-limits s (caches id path blob moment) old =
    all-change_first KeepsLimits (is_proxy id) (proxy_after (caches id path blob moment)) (λ p was. record { documents = was.documents; negatives = was.negatives; few = was.few }) s.proxies old
effect-limits s (keeps_doc id path document moment) old =
    all-change_first KeepsLimits (is_proxy id) (proxy_after (keeps_doc id path document moment))
    (λ p. document-limits p (record { path = path; checked = moment; document = document })) s.proxies old
effect-limits s (adds_negative id path moment) old =
    all-change_first KeepsLimits (is_proxy id) (proxy_after (adds_negative id path moment)) (λ p. negative-limits p (record { path = path; moment = moment })) s.proxies old
effect-limits s (clears_negative id path) old = all-change_first KeepsLimits (is_proxy id) (proxy_after (clears_negative id path)) (λ p. remove_negative-limits p path) s.proxies old
effect-limits s e old = old

effects-limits : (es : List Effect) (s : State) → KeepLimits s → KeepLimits (with_effects s es)
effects-limits [] s old = old
effects-limits (e ∷ es) s old = effects-limits es (with_effect s e) (effect-limits s e old)

pub entry-limits : (settings : Settings) (old : State) (e : Entry) → KeepLimits old → KeepLimits (after settings old e)
entry-limits settings old e keeps = effects-limits (effects_of settings old e) (ticked old e.moment e.faults) keeps

pub history-limits : (settings : Settings) (start : State) (entries : List Entry) → KeepLimits start → KeepLimits (end settings start entries)
history-limits settings start [] keeps = keeps
history-limits settings start (e ∷ entries) keeps = history-limits settings (after settings start e) entries (entry-limits settings start e keeps)

-- the opening state, and a start
new-limits : (rules : List ProxyRule) → AllByRecursion KeepsLimits (map new_proxy rules)
new-limits [] = tt
new-limits (rule ∷ rules) = (record { documents = none-rise kept_cmp; negatives = none-rise negative_cmp; few = omega arith }, new-limits rules)

pub opening-limits : (settings : Settings) (clock : Option Moments) → KeepLimits (opening settings clock)
opening-limits settings clock = new-limits settings.proxies

abbrev kept_of : RecordedDocument → Kept
kept_of d = record { path = d.path; checked = d.checked; document = d.document }

abbrev is_its : List ℕ → RecordedDocument → Bool
is_its id d = bytes_eq d.repo id

-- the documents that are recorded of one proxy rise by path
below-of : (id : List ℕ) (d : RecordedDocument) → bytes_eq d.repo id ≡ true → (documents : List RecordedDocument) → AllByRecursion (λ y. document_cmp d y ≡ Less) documents
    → AllByRecursion (λ k. kept_cmp (kept_of d) k ≡ Less) (documents_of documents id)
below-of id d here [] all = tt
below-of id d here (y ∷ documents) all =
    elim (bytes_eq y.repo id)
    as (λ b. bytes_eq y.repo id ≡ b → AllByRecursion (λ k. kept_cmp (kept_of d) k ≡ Less) (map kept_of (cond b (y ∷ filter (is_its id) documents) (filter (is_its id) documents)))) [
      | true ↦ λ there.
          let same : d.repo ≡ y.repo = same_path d.repo id here ∙ sym (same_path y.repo id there) in
          let tied : slice_cmp nat_cmp d.repo y.repo ≡ Equal = ap (λ x. slice_cmp nat_cmp d.repo x) (sym same) ∙ tied_itself nat_list_cmp_total d.repo in
          (sym (ap (λ o. ordering_then o (slice_cmp nat_cmp d.path y.path)) tied) ∙ all.0, below-of id d here documents all.1)
      | false ↦ λ _. below-of id d here documents all.1
    ] refl

documents-rise : (id : List ℕ) (documents : List RecordedDocument) → IsStrictlySortedBy document_cmp documents → IsStrictlySortedBy kept_cmp (documents_of documents id)
unfolding IsStrictlySortedBy
documents-rise id [] rising = tt
documents-rise id (d ∷ documents) rising =
    elim (bytes_eq d.repo id)
    as (λ b. bytes_eq d.repo id ≡ b → IsStrictlySortedBy kept_cmp (map kept_of (cond b (d ∷ filter (is_its id) documents) (filter (is_its id) documents)))) [
      | true ↦ λ here. (below-of id d here documents rising.0, documents-rise id documents rising.1)
      | false ↦ λ _. documents-rise id documents rising.1
    ] refl

module _ (tells : ℕ → Option (List ℕ)) (t : Tables) (order : InOrder t) where
  from-limits : (rules : List ProxyRule) → AllByRecursion KeepsLimits (map (proxy_from tells t) rules)
  from-limits [] = tt
  from-limits (rule ∷ rules) =
      (record { documents = documents-rise rule.id t.documents order.documents; negatives = none-rise negative_cmp; few = omega arith }, from-limits rules)

pub started-limits : (settings : Settings) (tells : ℕ → Option (List ℕ)) (stored : List ℕ) (clock : Option Moments) (faults : ℕ) (t : Tables)
    → InOrder t → KeepLimits (started settings tells stored clock faults t)
started-limits settings tells stored clock faults t order = from-limits tells t order settings.proxies
