-- What a proxy decides has its cause, and comes where there is one.
use Rattle.std.proofs.Common.{◌≡◌, ◌≢◌, ◌+◌, ◌⊎◌, inl, inr, ℕ, Bool, true, false, List, Some, None, Result, Ok, refl, sym, ◌∙◌, ap, subst}
use Rattle.std.specs.Prelude.{◌↔◌, find, is_some, if◌then◌else◌}
use Rattle.std.proofs.lemmas.Bool.{false≢true, ltb-true, lt-ltb, false_from_ne_true}
use Rattle.std.proofs.lemmas.Option.{none-some}
use Rattle.mvn_coords.specs.Kind.{kind}
use Rattle.mvn_coords.specs.declared.kind.Kind.{Kind}
use Rattle.mvn_coords.specs.declared.kind.Kind.TheVariants.{File, Doc}
use Rattle.mvn_coords.specs.declared.fault.PathFault.{PathFault}
use Rattle.mvn_coords.specs.Layout.{Coordinates, Directory}
use Rattle.path_patterns.specs.Pattern.{is_let_through}
use Rattle.repo_model.specs.declared.update.Update.{Update}
use Rattle.repo_model.specs.declared.update.Update.TheVariants as update
use Rattle.repo_model.specs.declared.step.Step.{Step}
use Rattle.repo_model.specs.declared.step.Step.TheVariants.{Serve, Missed, Blocked, Negative, Never, Fetch}
use Rattle.repo_model.specs.Data.{Kept, Proxy}
use Rattle.repo_model.specs.State.{is_negative_of, row_at}
use Rattle.repo_model.specs.Proxies.{kept_at, is_fresh, asks_never, is_fresh_negative, step_out, instead, step_for, document_step, decided}
use Rattle.proxy_laws.specs.Decisions.{IsSubject, IsLetThrough, IsFresh, IsMissing, IsUnasked, KeepsNothing, KeepsEnough, KeepsTooLittle, DecidedFor, DecidedBy}

-- ---- tests and what they say
never-is : (u : Update) → asks_never u ≡ true → u ≡ update.Never
never-is update.Never is = refl
never-is _ is = (cc)

never-not : (u : Update) → asks_never u ≡ false → u ≢ update.Never
never-not u not is = false≢true (sym not ∙ ap asks_never is)

not-never : (u : Update) → u ≢ update.Never → asks_never u ≡ false
not-never u other = false_from_ne_true (asks_never u) (λ is. other (never-is u is))

fresh-is : (u : Update) (checked now : ℕ) → is_fresh u checked now ≡ true → IsFresh u checked now
fresh-is update.Hourly checked now is = ltb-true now (checked + 3_600) is
fresh-is update.Daily checked now is = ltb-true now (checked + 86_400) is
fresh-is update.Once checked now is = tt
fresh-is _ checked now is = absurd (false≢true is)

is-fresh : (u : Update) (checked now : ℕ) → IsFresh u checked now → is_fresh u checked now ≡ true
is-fresh update.Hourly checked now is = lt-ltb now (checked + 3_600) is
is-fresh update.Daily checked now is = lt-ltb now (checked + 86_400) is
is-fresh update.Once checked now is = refl
is-fresh _ checked now is = absurd is

module _ (p : Proxy) (now : ℕ) (at : List ℕ) where
  abbrev known_missing : Bool
  known_missing = is_fresh_negative p.rule.negative_seconds now (find (is_negative_of at) p.negatives)

  missing-is : known_missing ≡ true → IsMissing p now at
  missing-is is =
      elim (find (is_negative_of at) p.negatives) as (λ found. find (is_negative_of at) p.negatives ≡ found → is_fresh_negative p.rule.negative_seconds now found ≡ true → IsMissing p now at) [
        | None ↦ λ _ no. absurd (false≢true no)
        | (Some m) ↦ λ found counts. (m, found, ltb-true now (m.moment + p.rule.negative_seconds) counts)
      ] refl is

  is-missing : IsMissing p now at → known_missing ≡ true
  is-missing (m, found, counts) = ap (is_fresh_negative p.rule.negative_seconds now) found ∙ lt-ltb now (m.moment + p.rule.negative_seconds) counts

  not-missing : (IsMissing p now at → ⊥) → known_missing ≡ false
  not-missing other = false_from_ne_true known_missing (λ is. other (missing-is is))

  module _ (tried : Bool) where
    -- ---- each decision has its cause
    -- where nothing that is enough is kept
    out-caused : (k : Result Kind PathFault) → IsLetThrough p at → KeepsNothing p at k → KeepsTooLittle p now at k → DecidedFor p now tried at k (step_out p now tried at)
    out-caused k let_through nothing little =
        elim tried
        as (λ b. tried ≡ b → DecidedFor p now tried at k (if b then Missed else if asks_never p.rule.update then Never else if known_missing then Negative else Fetch)) [
          | true ↦ λ was. (let_through, nothing, was)
          | false ↦ λ untried.
              elim (asks_never p.rule.update)
              as (λ b. asks_never p.rule.update ≡ b → DecidedFor p now tried at k (if b then Never else if known_missing then Negative else Fetch)) [
                | true ↦ λ never. (let_through, nothing, untried, never-is p.rule.update never)
                | false ↦ λ asks.
                    elim known_missing as (λ b. known_missing ≡ b → DecidedFor p now tried at k (if b then Negative else Fetch)) [
                      | true ↦ λ counts. (let_through, nothing, untried, never-not p.rule.update asks, missing-is counts)
                      | false ↦ λ none. (let_through, little, untried, never-not p.rule.update asks, λ missing. false≢true (sym none ∙ is-missing missing))
                    ] refl
              ] refl
        ] refl

    -- where a stale document is kept
    stale-caused : (d : Directory) (kept : Kept) → IsLetThrough p at → kept_at at p.documents ≡ Some kept → KeepsTooLittle p now at (Ok (Doc d)) → DecidedFor p now tried at (Ok (Doc d)) (instead (step_out p now tried at))
    stale-caused d kept let_through found little =
        elim tried
        as (λ b. tried ≡ b → DecidedFor p now tried at (Ok (Doc d)) (instead (if b then Missed else if asks_never p.rule.update then Never else if known_missing then Negative else Fetch))) [
          | true ↦ λ was. (let_through, (kept, found, inr (inl was)))
          | false ↦ λ untried.
              elim (asks_never p.rule.update)
              as (λ b. asks_never p.rule.update ≡ b → DecidedFor p now tried at (Ok (Doc d)) (instead (if b then Never else if known_missing then Negative else Fetch))) [
                | true ↦ λ never. (let_through, (kept, found, inr (inr (inl (never-is p.rule.update never)))))
                | false ↦ λ asks.
                    elim known_missing as (λ b. known_missing ≡ b → DecidedFor p now tried at (Ok (Doc d)) (instead (if b then Negative else Fetch))) [
                      | true ↦ λ counts. (let_through, (kept, found, inr (inr (inr (missing-is counts)))))
                      | false ↦ λ none. (let_through, little, untried, never-not p.rule.update asks, λ missing. false≢true (sym none ∙ is-missing missing))
                    ] refl
              ] refl
        ] refl

    file-caused : (c : Coordinates) → IsLetThrough p at → DecidedFor p now tried at (Ok (File c)) (step_for p now tried at (Ok (File c)))
    file-caused c let_through =
        elim (row_at at p.files) as (λ found. row_at at p.files ≡ found → DecidedFor p now tried at (Ok (File c)) (if is_some found then Serve else step_out p now tried at)) [
          | None ↦ λ none. out-caused (Ok (File c)) let_through none none
          | (Some row) ↦ λ found. (let_through, (row, found))
        ] refl

    stale : (kept : Kept) → kept_at at p.documents ≡ Some kept → is_fresh p.rule.update kept.checked now ≡ false
        → (other : Kept) → kept_at at p.documents ≡ Some other → IsFresh p.rule.update other.checked now → ⊥
    stale kept found old other other_found fresh =
        let both : Some kept ≡ Some other = sym found ∙ other_found in
        let same : kept ≡ other = cc in
        false≢true (sym old ∙ ap (λ (k : Kept). is_fresh p.rule.update k.checked now) same ∙ is-fresh p.rule.update other.checked now fresh)

    document-caused : (d : Directory) → IsLetThrough p at → DecidedFor p now tried at (Ok (Doc d)) (step_for p now tried at (Ok (Doc d)))
    document-caused d let_through =
        elim (kept_at at p.documents)
        as (λ found. kept_at at p.documents ≡ found → DecidedFor p now tried at (Ok (Doc d)) (document_step p now (step_out p now tried at) found)) [
          | None ↦ λ none. out-caused (Ok (Doc d)) let_through none (λ kept found _. none-some kept (sym none ∙ found))
          | (Some kept) ↦ λ found.
              elim (is_fresh p.rule.update kept.checked now)
              as (λ b. is_fresh p.rule.update kept.checked now ≡ b → DecidedFor p now tried at (Ok (Doc d)) (if b then Serve else instead (step_out p now tried at))) [
                | true ↦ λ fresh. (let_through, (kept, found, inl (fresh-is p.rule.update kept.checked now fresh)))
                | false ↦ λ old. stale-caused d kept let_through found (stale kept found old)
              ] refl
        ] refl

    step-caused : (k : Result Kind PathFault) → IsSubject k → IsLetThrough p at → DecidedFor p now tried at k (step_for p now tried at k)
    step-caused (Ok (File c)) subject let_through = file-caused c let_through
    step-caused (Ok (Doc d)) subject let_through = document-caused d let_through
    step-caused _ subject let_through = absurd subject

    abbrev decided_for : Result Kind PathFault → Step
    decided_for k = if is_let_through p.rule.allow p.rule.block at then step_for p now tried at k else Blocked

    caused : (k : Result Kind PathFault) → IsSubject k → DecidedFor p now tried at k (decided_for k)
    caused k subject =
        elim (is_let_through p.rule.allow p.rule.block at)
        as (λ b. is_let_through p.rule.allow p.rule.block at ≡ b → DecidedFor p now tried at k (if b then step_for p now tried at k else Blocked)) [
          | true ↦ λ let_through. step-caused k subject let_through
          | false ↦ λ blocked. blocked
        ] refl

    -- ---- and comes where there is one
    -- the step where the remote is not asked, or is
    unasked : IsUnasked p now tried at → instead (step_out p now tried at) ≡ Serve
    unasked (inl was) = rw was refl
    unasked (inr why) =
        elim tried as (λ b. instead (if b then Missed else if asks_never p.rule.update then Never else if known_missing then Negative else Fetch) ≡ Serve) [
          | true ↦ refl
          | false ↦ untried why
        ] where
          untried : (p.rule.update ≡ update.Never) ⊎ IsMissing p now at → instead (if asks_never p.rule.update then Never else if known_missing then Negative else Fetch) ≡ Serve
          untried (inl never) = ap (λ b. instead (if b then Never else if known_missing then Negative else Fetch)) (ap asks_never never)
          untried (inr missing) =
              elim (asks_never p.rule.update) as (λ b. instead (if b then Never else if known_missing then Negative else Fetch) ≡ Serve) [
                | true ↦ refl
                | false ↦ ap (λ b. instead (if b then Negative else Fetch)) (is-missing missing)
              ]

    out-never : tried ≡ false → p.rule.update ≡ update.Never → step_out p now tried at ≡ Never
    out-never untried never = let so : asks_never p.rule.update ≡ true = ap asks_never never in rw (untried, so) refl

    out-negative : tried ≡ false → p.rule.update ≢ update.Never → IsMissing p now at → step_out p now tried at ≡ Negative
    out-negative untried asks missing = rw (untried, not-never p.rule.update asks, is-missing missing) refl

    out-fetch : tried ≡ false → p.rule.update ≢ update.Never → (IsMissing p now at → ⊥) → step_out p now tried at ≡ Fetch
    out-fetch untried asks present = rw (untried, not-never p.rule.update asks, not-missing present) refl

    -- where nothing is kept, the step is the one without it
    nothing-step : (k : Result Kind PathFault) → KeepsNothing p at k → step_for p now tried at k ≡ step_out p now tried at
    nothing-step (Ok (File c)) none = ap (λ found. if is_some found then Serve else step_out p now tried at) none
    nothing-step (Ok (Doc d)) none = ap (document_step p now (step_out p now tried at)) none
    nothing-step _ none = absurd none

    enough-step : (k : Result Kind PathFault) → KeepsEnough p now tried at k → step_for p now tried at k ≡ Serve
    enough-step (Ok (File c)) (row, found) = ap (λ f. if is_some f then Serve else step_out p now tried at) found
    enough-step (Ok (Doc d)) (kept, found, why) = ap (document_step p now (step_out p now tried at)) found ∙ by why where
      by : IsFresh p.rule.update kept.checked now ⊎ IsUnasked p now tried at → (if is_fresh p.rule.update kept.checked now then Serve else instead (step_out p now tried at)) ≡ Serve
      by (inl fresh) = ap (λ b. if b then Serve else instead (step_out p now tried at)) (is-fresh p.rule.update kept.checked now fresh)
      by (inr why) = elim (is_fresh p.rule.update kept.checked now) as (λ b. (if b then Serve else instead (step_out p now tried at)) ≡ Serve) [ true ↦ refl | false ↦ unasked why ]
    enough-step _ enough = absurd enough

    little-step : (k : Result Kind PathFault) → KeepsTooLittle p now at k → step_out p now tried at ≡ Fetch → step_for p now tried at k ≡ Fetch
    little-step (Ok (File c)) none out = ap (λ found. if is_some found then Serve else step_out p now tried at) none ∙ out
    little-step (Ok (Doc d)) little out =
        elim (kept_at at p.documents) as (λ found. kept_at at p.documents ≡ found → document_step p now (step_out p now tried at) found ≡ Fetch) [
          | None ↦ λ _. out
          | (Some kept) ↦ λ found.
              let old : is_fresh p.rule.update kept.checked now ≡ false =
              false_from_ne_true (is_fresh p.rule.update kept.checked now) (λ fresh. little kept found (fresh-is p.rule.update kept.checked now fresh)) in
              ap (λ b. if b then Serve else instead (step_out p now tried at)) old ∙ ap instead out
        ] refl
    little-step _ little out = absurd little

    let-in : (k : Result Kind PathFault) (step : Step) → IsLetThrough p at → step_for p now tried at k ≡ step → decided_for k ≡ step
    let-in k step let_through is = ap (λ b. if b then step_for p now tried at k else Blocked) let_through ∙ is

    comes : (k : Result Kind PathFault) (step : Step) → DecidedFor p now tried at k step → decided_for k ≡ step
    comes k Blocked blocked = ap (λ b. if b then step_for p now tried at k else Blocked) blocked
    comes k Serve (let_through, enough) = let-in k Serve let_through (enough-step k enough)
    comes k Missed (let_through, nothing, was) = let-in k Missed let_through (nothing-step k nothing ∙ ap (λ b. if b then Missed else if asks_never p.rule.update then Never else if known_missing then Negative else Fetch) was)
    comes k Never (let_through, nothing, untried, never) = let-in k Never let_through (nothing-step k nothing ∙ out-never untried never)
    comes k Negative (let_through, nothing, untried, asks, missing) = let-in k Negative let_through (nothing-step k nothing ∙ out-negative untried asks missing)
    comes k Fetch (let_through, little, untried, asks, present) = let-in k Fetch let_through (little-step k little (out-fetch untried asks present))

pub each-decision : (p : Proxy) (now : ℕ) (tried : Bool) (at : List ℕ) (step : Step) → IsSubject (kind at) → (decided p now tried at ≡ step) ↔ DecidedBy p now tried at step
each-decision p now tried at step subject =
    ((λ is. subst (DecidedFor p now tried at (kind at)) is (caused p now at tried (kind at) subject)), comes p now at tried (kind at) step)
