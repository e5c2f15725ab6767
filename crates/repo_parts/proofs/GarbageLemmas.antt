-- Effects by which blobs become garbage: each of these blobs was in use and goes once, and what rows and staged files have stays in use.
use native.Mathlib.Omega.{arith}
use Rattle.std.proofs.Common.{◌≡◌, ℕ, ◌+◌, ◌≤◌, List, [], ◌∷◌, refl, ap, ◌∙◌, subst}
use Rattle.std.specs.Prelude.{IsTrue}
use Rattle.std.specs.List.{AllByRecursion, flat_map}
use Rattle.deploy_session.specs.Known.{garbage_by, next_after_all, sessions_after_all}
use Rattle.repo_model.specs.Data.{Hosted, Proxy, Session}
use Rattle.repo_model.specs.May.{AllMay, May}
use Rattle.repo_model.specs.State.{State, Yard, is_among}
use Rattle.repo_model.specs.Effect.{Effect, condemning, delivers, discards, ends, expires, relists, with_effect, with_effects, yard_after}
use Rattle.repo_laws.specs.Laws.{cached_with, count_of, places_of, rows_with, staged_with}
use Rattle.repo_laws.specs.Sound.{OnePlace}
use Rattle.repo_laws.proofs.Places.{places-counted}
use Rattle.repo_parts.specs.Deploys.{hosted_after_all}
use Rattle.repo_parts.specs.Proxies.{proxies_after_all}
use Rattle.repo_parts.specs.Purge.{AreKeptOnce, condemned_by, kept_without}
use Rattle.repo_parts.proofs.AmongLemmas.{count-condemned, each-used, kept-once, kept-still}
use Rattle.repo_parts.proofs.BlobLemmas.{placed-once}
use Rattle.repo_parts.proofs.StagedLemmas.{Covers}

-- an effect that draws nothing, and by which nothing but garbage comes to the numbers
abbrev pub IsGoing : Effect → Type 0
IsGoing (delivers n repo path blob moment) = Unit {0}
IsGoing (discards n path draft) = Unit {0}
IsGoing (relists repo path moment) = Unit {0}
IsGoing (expires repo path blob) = Unit {0}
IsGoing (ends n result) = Unit {0}
IsGoing effect = ⊥

abbrev pub garbage_of : List Effect → List ℕ
garbage_of es = flat_map garbage_by es

abbrev yards_after : List Effect → Yard → Yard
yards_after [] yard = yard
yards_after (e ∷ es) yard = yards_after es (yard_after e yard)

-- each part of the state goes its own way
spread : (es : List Effect) (s : State)
    → with_effects s es ≡ record s { hosted = hosted_after_all es s.hosted; proxies = proxies_after_all es s.proxies; sessions = sessions_after_all es s.sessions; yard = yards_after es s.yard }
spread [] s = refl
spread (e ∷ es) s = spread es (with_effect s e)

yards-condemned : (es : List Effect) (yard : Yard) → AllByRecursion IsGoing es → yards_after es yard ≡ condemned_by (garbage_of es) yard
yards-condemned [] yard all = refl
yards-condemned (delivers n repo path blob moment ∷ es) yard all = yards-condemned es yard all.1
yards-condemned (discards n path draft ∷ es) yard all = yards-condemned es (condemning draft yard) all.1
yards-condemned (relists repo path moment ∷ es) yard all = yards-condemned es yard all.1
yards-condemned (expires repo path blob ∷ es) yard all = yards-condemned es (condemning blob yard) all.1
yards-condemned (ends n result ∷ es) yard all = yards-condemned es yard all.1
yards-condemned (e ∷ es) yard all = absurd all.0

proxies-still : (es : List Effect) (proxies : List Proxy) → AllByRecursion IsGoing es → proxies_after_all es proxies ≡ proxies
proxies-still [] proxies all = refl
proxies-still (delivers n repo path blob moment ∷ es) proxies all = proxies-still es proxies all.1
proxies-still (discards n path draft ∷ es) proxies all = proxies-still es proxies all.1
proxies-still (relists repo path moment ∷ es) proxies all = proxies-still es proxies all.1
proxies-still (expires repo path blob ∷ es) proxies all = proxies-still es proxies all.1
proxies-still (ends n result ∷ es) proxies all = proxies-still es proxies all.1
proxies-still (e ∷ es) proxies all = absurd all.0

pub going-state : (es : List Effect) (s : State) → AllByRecursion IsGoing es
    → with_effects s es ≡ record s { hosted = hosted_after_all es s.hosted; sessions = sessions_after_all es s.sessions; yard = condemned_by (garbage_of es) s.yard }
going-state es s all =
    spread es s
    ∙ ap (λ ps. record s { hosted = hosted_after_all es s.hosted; proxies = ps; sessions = sessions_after_all es s.sessions; yard = yards_after es s.yard }) (proxies-still es s.proxies all)
    ∙ ap (λ y. record s { hosted = hosted_after_all es s.hosted; sessions = sessions_after_all es s.sessions; yard = y }) (yards-condemned es s.yard all)

pub next-still : (es : List Effect) (next : ℕ) → AllByRecursion IsGoing es → next_after_all es next ≡ next
next-still [] next all = refl
next-still (delivers n repo path blob moment ∷ es) next all = next-still es next all.1
next-still (discards n path draft ∷ es) next all = next-still es next all.1
next-still (relists repo path moment ∷ es) next all = next-still es next all.1
next-still (expires repo path blob ∷ es) next all = next-still es next all.1
next-still (ends n result ∷ es) next all = next-still es next all.1
next-still (e ∷ es) next all = absurd all.0

condemned-drafts : (ns : List ℕ) (yard : Yard) → (condemned_by ns yard).drafts ≡ yard.drafts
condemned-drafts [] yard = refl
condemned-drafts (n ∷ ns) yard = condemned-drafts ns (condemning n yard)

module _ (grace now : ℕ) where
  one-counted : (e : Effect) (s : State) (n : ℕ) → IsGoing e → May grace now s e → places_of (with_effect s e) n ≤ places_of s n
  one-counted (delivers m repo path blob moment) s n going may = omega (arith, places-counted grace now s n (delivers m repo path blob moment) may)
  one-counted (discards m path draft) s n going may = omega (arith, places-counted grace now s n (discards m path draft) may)
  one-counted (relists repo path moment) s n going may = omega (arith, places-counted grace now s n (relists repo path moment) may)
  one-counted (expires repo path blob) s n going may = omega (arith, places-counted grace now s n (expires repo path blob) may)
  one-counted (ends m result) s n going may = omega (arith, places-counted grace now s n (ends m result) may)
  one-counted e s n going may = absurd going

  all-counted : (es : List Effect) (s : State) (n : ℕ) → AllByRecursion IsGoing es → AllMay grace now s es → places_of (with_effects s es) n ≤ places_of s n
  all-counted [] s n going may = omega arith
  all-counted (e ∷ es) s n going may = omega (arith, one-counted e s n going.0 may.0, all-counted es (with_effect s e) n going.1 may.1)

  module _ (es : List Effect) (s : State) (going : AllByRecursion IsGoing es) (may : AllMay grace now s es) (places : OnePlace s) where
    abbrev hosted_then : List Hosted
    hosted_then = hosted_after_all es s.hosted

    abbrev sessions_then : List Session
    sessions_then = sessions_after_all es s.sessions

    -- where a number stands then is where it stood, but that it may have become garbage
    stood : (n : ℕ) → count_of n s.yard.drafts + rows_with n hosted_then + cached_with n s.proxies + staged_with n sessions_then + (count_of n (garbage_of es) + count_of n s.yard.condemned) ≤ places_of s n
    stood n =
        let after : State = record s { hosted = hosted_then; sessions = sessions_then; yard = condemned_by (garbage_of es) s.yard } in
        let fewer : places_of after n ≤ places_of s n = subst (λ t. places_of t n ≤ places_of s n) (going-state es s going) (all-counted es s n going may) in
        let drafts : count_of n after.yard.drafts ≡ count_of n s.yard.drafts = ap (count_of n) (condemned-drafts (garbage_of es) s.yard) in
        omega (arith, fewer, drafts, count-condemned n (garbage_of es) s.yard)

    -- no proxy's file has a blob that becomes garbage
    pub none-cached : (n : ℕ) → 1 ≤ cached_with n s.proxies → count_of n (garbage_of es) ≡ 0
    none-cached n some = omega (arith, stood n, placed-once s places n, some)

    module _ (kept : List ℕ) (cover : Covers kept s.hosted s.sessions) where
      -- a number that stands then, or is garbage, was in use
      was-used : (n : ℕ) → 1 ≤ rows_with n hosted_then + staged_with n sessions_then + count_of n (garbage_of es) → IsTrue (is_among n kept)
      was-used n some = cover n (omega (arith, stood n, placed-once s places n, some))

      pub garbage-once : AreKeptOnce (garbage_of es) kept
      garbage-once =
          kept-once (garbage_of es) kept (each-used (λ (n : ℕ). n) kept (garbage_of es) (λ n some. let there : 1 ≤ count_of n (garbage_of es) = some in was-used n (omega (arith, there)))) (λ n. omega (arith, stood n, placed-once s places n))

      pub covered-then : Covers (kept_without (garbage_of es) kept) hosted_then sessions_then
      covered-then n some = kept-still n (garbage_of es) kept (was-used n (omega (arith, some))) (omega (arith, stood n, placed-once s places n, some))
