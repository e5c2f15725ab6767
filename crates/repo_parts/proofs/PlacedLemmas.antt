-- A landing changes one proxy: among others, that of its plan.
use Rattle.std.proofs.Common.{◌≡◌, ◌<◌, ◌+◌, ◌||◌, ℕ, Bool, true, false, cond, not, List, [], ◌∷◌, length, find, get_or, set, arith, Option, Some, None, zero, suc, refl, sym, ap, ◌∙◌, bytes_eq}
use Rattle.std.specs.Prelude.{IsTrue, nat_lt}
use Rattle.std.specs.List.{AllByRecursion, list_any, position, position_or_len}
use Rattle.std.proofs.lemmas.Bool.{lt-ltb}
use Rattle.fetch_plan.specs.declared.Plan.{Plan}
use Rattle.fetch_plan.specs.declared.Outcome.TheVariants.{Got, Gone}
use Rattle.repo_model.specs.Data.{Blob, Proxy, Row}
use Rattle.repo_model.specs.Effect.{Effect, proxies_after, proxy_after}
use Rattle.repo_model.specs.Fetched.{Landing, got_doc, got_file}
use Rattle.repo_model.specs.State.{change_first, is_proxy, row_at}
use Rattle.repo_model.specs.Turn.{gives_draft_up, lands_by, lands_file}
use Rattle.proxy_rules.specs.Landings.{proxy_after_all}
use Rattle.repo_laws.proofs.Lists.{found-passes}
use Rattle.repo_restart.proofs.PlaceLemmas.{find-at}
use Rattle.repo_parts.specs.Proxies.{proxies_after_all}
use Rattle.repo_parts.proofs.ListLemmas.{change-twice, same-all}

-- an effect changes no other proxy
record OnlyAt (id : List ℕ) (e : Effect) : Type 0 where
  pub here : (proxies : List Proxy) → proxies_after e proxies ≡ change_first (is_proxy id) (proxy_after e) proxies
  pub rule : (p : Proxy) → (proxy_after e p).rule ≡ p.rule

all-at : (id : List ℕ) (effects : List Effect) → AllByRecursion (OnlyAt id) effects → (proxies : List Proxy) → proxies_after_all effects proxies ≡ change_first (is_proxy id) (proxy_after_all effects) proxies
all-at id [] at proxies = sym (same-all (is_proxy id) proxies)
all-at id (e ∷ effects) at proxies =
    all-at id effects at.1 (proxies_after e proxies)
    ∙ ap (change_first (is_proxy id) (proxy_after_all effects)) (at.0.here proxies)
    ∙ change-twice (is_proxy id) (proxy_after e) (proxy_after_all effects) (λ p. ap (λ rule. bytes_eq rule.id id) (at.0.rule p)) proxies

up-at : (id : List ℕ) (draft : Option ℕ) → AllByRecursion (OnlyAt id) (gives_draft_up draft)
up-at id None = tt
up-at id (Some n) = (record { here = λ proxies. sym (same-all (is_proxy id) proxies); rule = λ p. refl }, tt)

file-at : (plan : Plan) (blob : Blob) (now : ℕ) (found : Option Row) → AllByRecursion (OnlyAt plan.proxy) (lands_file plan blob now found)
file-at plan blob now None = (record { here = λ proxies. refl; rule = λ p. refl }, (record { here = λ proxies. refl; rule = λ p. refl }, tt))
file-at plan blob now (Some row) = (record { here = λ proxies. refl; rule = λ p. refl }, up-at plan.proxy plan.draft)

landing-at : (files : List Row) (now : ℕ) (plan : Plan) (landing : Landing) → AllByRecursion (OnlyAt plan.proxy) (lands_by files now plan landing)
landing-at files now plan (Got (got_file blob)) = file-at plan blob now (row_at plan.path files)
landing-at files now plan (Got (got_doc document)) = (record { here = λ proxies. refl; rule = λ p. refl }, (record { here = λ proxies. refl; rule = λ p. refl }, tt))
landing-at files now plan Gone = (record { here = λ proxies. refl; rule = λ p. refl }, up-at plan.proxy plan.draft)
landing-at files now plan landing = up-at plan.proxy plan.draft

-- what lands among proxies lands at that of its plan
pub landing-here : (files : List Row) (now : ℕ) (plan : Plan) (landing : Landing) (proxies : List Proxy)
    → proxies_after_all (lands_by files now plan landing) proxies ≡ change_first (is_proxy plan.proxy) (proxy_after_all (lands_by files now plan landing)) proxies
landing-here files now plan landing proxies = all-at plan.proxy (lands_by files now plan landing) (landing-at files now plan landing) proxies

-- an element that is set to itself
pub set-itself : {X : Type 0} (xs : List X) (i : ℕ) (x : X) → x ≡ get_or xs i x → set xs i x ≡ xs
set-itself [] i x is = refl
set-itself (y ∷ xs) zero x is = ap (λ z. z ∷ xs) is
set-itself (y ∷ xs) (suc i) x is = ap (λ rest. y ∷ rest) (set-itself xs i x is)

-- a proxy that was found has the id
pub named-so : (id : List ℕ) (proxies : List Proxy) (i : ℕ) (p : Proxy) → position (is_proxy id) proxies ≡ Some i → p ≡ get_or proxies i p → is_proxy id p ≡ true
named-so id proxies i p is here = found-passes (is_proxy id) proxies p (find-at (is_proxy id) proxies i p is ∙ ap (λ (q : Proxy). Some q) (sym here))

-- one that is there has a place
any-within : {X : Type 0} (p : X → Bool) (xs : List X) → list_any p xs ≡ true → position_or_len p xs < length xs
any-within p [] some = cc
any-within p (x ∷ xs) some =
    elim (p x) as (λ b. (b || list_any p xs) ≡ true → cond (not b) (1 + position_or_len p xs) 0 < suc (length xs)) [
      | true ↦ λ here. omega arith
      | false ↦ λ later. omega (arith, any-within p xs later)
    ] some

pub none-there : {X : Type 0} (p : X → Bool) (xs : List X) → IsTrue (list_any p xs) → position p xs ≡ None → ⊥
none-there p xs some none =
    let n = position_or_len p xs in
    let there : position p xs ≡ Some n = ap (λ b. cond b (Some n) None) (lt-ltb n (length xs) (any-within p xs some)) in
    cc

pub place-so : {X : Type 0} (p : X → Bool) (xs : List X) (i : ℕ) → position p xs ≡ Some i → position_or_len p xs ≡ i
place-so p xs i is =
    let n = position_or_len p xs in
    elim (nat_lt n (length xs)) as (λ b. cond b (Some n) None ≡ Some i → n ≡ i) [ true ↦ λ some. cc | false ↦ λ none. cc ] is

-- what passes first is set at its place
pub set-found : {X : Type 0} (p : X → Bool) (f : X → X) (xs : List X) (old : X) → find p xs ≡ Some old → set xs (position_or_len p xs) (f old) ≡ change_first p f xs
set-found p f [] old is = cc
set-found p f (x ∷ xs) old is =
    let n = position_or_len p xs in
    elim (p x) as (λ b. cond b (Some x) (find p xs) ≡ Some old → set (x ∷ xs) (cond (not b) (1 + n) 0) (f old) ≡ cond b (f x ∷ xs) (x ∷ change_first p f xs)) [
      | true ↦ λ here. let is_first : old ≡ x = cc in ap (λ y. f y ∷ xs) is_first
      | false ↦ λ later. let next : 1 + n ≡ suc n = omega arith in ap (λ k. set (x ∷ xs) k (f old)) next ∙ ap (λ rest. x ∷ rest) (set-found p f xs old later)
    ] is
