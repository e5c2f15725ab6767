-- Unlist and Collect, as turns of the machine.
use native.Mathlib.Omega.{arith}
use Rattle.std.proofs.Common.{◌≡◌, ℕ, ◌≤◌, false, List, [], ◌∷◌, length, map, Option, Some, None, Result, Ok, Err, inl, inr, refl, sym, ap, ◌∙◌, subst}
use Rattle.std.specs.Prelude.{IsTrue, OnErr, OnOk, find}
use Rattle.std.specs.List.{AllByRecursion}
use Rattle.std.specs.Option.{option_map_or}
use Rattle.std.proofs.lemmas.Grind.{flat_map-append}
use Rattle.std.proofs.lemmas.List.{append-nil}
use Rattle.ordered_rows.specs.Rows.{rows_after_all}
use Rattle.repo_model.specs.Command.{collect, unlist}
use Rattle.repo_model.specs.Data.{Hosted, Session}
use Rattle.repo_model.specs.History.{commits}
use Rattle.repo_model.specs.Effect.{Effect, expires, forgets, items_of, recorded, with_effect, with_effects, yard_after}
use Rattle.repo_model.specs.Purge.{due_rows, expire_all, fade_all, most_rows}
use Rattle.repo_model.specs.Reply.{Reply, collected, is_free, no_memory, store_fault, unlisted}
use Rattle.repo_model.specs.State.{State, Yard, change_first, hosted_of, is_repository}
use Rattle.repo_model.specs.Turn.{unlent, unlist_of}
use Rattle.repo_model.specs.declared.item.Item.{Item}
use Rattle.row_tables.specs.Leaving.{End, Leaves, Shown, done, failing, wanting}
use Rattle.repo_laws.specs.Laws.{rows_with}
use Rattle.repo_laws.specs.Sound.{AreNamedApart}
use Rattle.deploy_session.specs.Known.{sessions_after_all}
use Rattle.repo_model.specs.May.{AllMay}
use Rattle.repo_laws.proofs.ByPath.{all-apart}
use Rattle.repo_laws.proofs.Purges.{expires-all}
use Rattle.repo_laws.proofs.Histories.{with_effects-append}
use Rattle.repo_laws.proofs.Lists.{found-passes}
use Rattle.repo_laws.proofs.Releases.{same_path}
use Rattle.repo_parts.specs.Deploys.{AreStagedInUse}
use Rattle.repo_parts.specs.Hosted.{AreInUse, rows_in, with_rows}
use Rattle.repo_parts.specs.Proxies.{AreCachedInUse}
use Rattle.hosted_repo.specs.Expired.{blob_of}
use Rattle.repo_parts.specs.Purge.{AreKeptOnce, condemned_by, dropped_by, kept_without, shares}
use Rattle.repo_core.specs.Turn.{Recorded, Turned, items_due}
use Rattle.repo_core.specs.Whole.{IsOrderly, Parts}
use Rattle.settings_laws.proofs.Apart.{named-apart}
use Rattle.repo_parts.proofs.BlobLemmas.{gone-once, none-gone, none-of-proxies}
use Rattle.repo_parts.proofs.CachedLemmas.{cached-still}
use Rattle.repo_parts.proofs.PurgeLemmas.{IsRemoval, dropped-used, expired-all, faded, fading_all, removals}
use Rattle.repo_parts.proofs.GarbageLemmas.{IsGoing, covered-then, garbage_of}
use Rattle.repo_parts.proofs.StagedLemmas.{covered-files, covers}
use Rattle.repo_parts.proofs.HostedLemmas.{lent-rows, lent-still, with_lent}
use Rattle.repo_parts.proofs.PutReplies.{rows-by, same-rows}
use Rattle.repo_core.proofs.Turning.{committed-by, failed-so, recorded-so, some-items, turned-without}
use Rattle.repo_parts.proofs.UseLemmas.{all-still}

-- the rows of one repository, once those that are due are unlisted
abbrev pub rows_unlisted : List ℕ → ℕ → List Hosted → List Hosted
rows_unlisted repo now hosted = with_rows repo (rows_after_all (unlist_of now (find (is_repository repo) hosted)).effects (rows_in repo hosted)) hosted

-- a repository that was found is lent, and its rows that are due are unlisted, or it comes back as it was
module _ (id : List ℕ) (items : List Hosted) (now : ℕ) (old new : Hosted) (here : find (is_repository id) items ≡ Some old) where
  unlisted-lent : new ≡ record old { rows = rows_after_all (fade_all old now) old.rows } → with_lent id items new ≡ rows_unlisted id now items
  unlisted-lent made =
      let faded = rows_after_all (fade_all old now) old.rows in
      lent-rows id items old new faded here made
      ∙ ap (λ rows. with_rows id rows items) (subst (λ found. faded ≡ rows_after_all (unlist_of now found).effects (option_map_or (λ (h : Hosted). h.rows) found [])) (sym here) refl)

  pub unlisted-count : (n : ℕ) → n ≡ length (due_rows old.rule now old.rows) → unlisted n ≡ (unlist_of now (find (is_repository id) items)).reply
  unlisted-count n count = ap unlisted count ∙ ap (λ found. (unlist_of now found).reply) (sym here)

  -- what holds of the repositories either way
  pub unlisted-or-not : {E : Type 0} (P : List Hosted → Type 0) (did : Result ℕ E) → OnOk did (new ≡ record old { rows = rows_after_all (fade_all old now) old.rows }) → OnErr did (new ≡ old)
      → ((n : ℕ) → did ≡ Ok n → P (rows_unlisted id now items)) → P items → P (with_lent id items new)
  unlisted-or-not P (Ok n) rows err made still = subst P (sym (unlisted-lent rows)) (made n refl)
  unlisted-or-not P (Err e) rows err made still = subst P (sym (lent-still id items old new here err)) still

left-by : (s : State) (repo : List ℕ) (found : Option Hosted) → hosted_of repo s ≡ found
    → record s { hosted = with_rows repo (rows_after_all (unlist_of s.last found).effects (rows_in repo s.hosted)) s.hosted } ≡ with_effects s (unlist_of s.last found).effects
left-by s repo None is = ap (λ hosted. record s { hosted = hosted }) (same-rows repo s.hosted)
left-by s repo (Some h) is =
    let due = due_rows h.rule s.last h.rows in
    let named : h.rule.id ≡ repo = same_path h.rule.id repo (found-passes (is_repository repo) s.hosted h is) in
    ap (λ hosted. record s { hosted = hosted }) (rows-by repo (rows_after_all (fading_all h.rule.id s.last due)) s.hosted)
    ∙ ap (λ id. record s { hosted = change_first (is_repository id) (λ k. record k { rows = rows_after_all (fading_all h.rule.id s.last due) k.rows }) s.hosted }) (sym named)
    ∙ sym (faded h.rule.id s.last due s)

-- rows of a repository were unlisted
turned-unlisted : (w : Parts) (repo : List ℕ) (n : ℕ) (hosted : List Hosted) → unlisted n ≡ (unlist_of w.state.last (hosted_of repo w.state)).reply
    → hosted ≡ rows_unlisted repo w.state.last w.state.hosted → Turned w (record w { state = record w.state { hosted = hosted } }) (unlist repo) (unlisted n)
turned-unlisted w repo n hosted count rows = record {
  settings = refl;
  calls = refl;
  answered = inl count;
  left = ap (λ hs. record w.state { hosted = hs }) rows ∙ left-by w.state repo (hosted_of repo w.state) refl;
}

-- rows of a repository were unlisted, once that was recorded; or memory ran out; or the records failed
module _ (w : Parts) (repo : List ℕ) (old new : Hosted) (here : find (is_repository repo) w.state.hosted ≡ Some old) (before later : Shown) where
  abbrev then_left : Parts
  then_left = record w { state = record w.state { hosted = with_lent repo w.state.hosted new } }

  abbrev due_here : List Item
  due_here = recorded (fade_all old w.state.last)

  due-so : (how : End) → Leaves due_here how before later → Leaves (items_due w (unlist repo)) how before later
  due-so how leaves = subst (λ found. Leaves (recorded (unlist_of w.state.last found).effects) how before later) (sym here) leaves

  pub unlist-done : (n : ℕ) → n ≡ length (due_rows old.rule w.state.last old.rows) → new ≡ record old { rows = rows_after_all (fade_all old w.state.last) old.rows }
      → Leaves due_here done before later → Recorded w then_left (unlist repo) (unlisted n) before later
  unlist-done n count rows leaves =
      recorded-so w then_left (unlist repo) (unlisted n) before later
      (turned-unlisted w repo n (with_lent repo w.state.hosted new) (unlisted-count repo w.state.hosted w.state.last old new here n count) (unlisted-lent repo w.state.hosted w.state.last old new here rows))
      (due-so done leaves)

  module _ (still : new ≡ old) where
    left-still : then_left.state ≡ w.state
    left-still = ap (λ hs. record w.state { hosted = hs }) (lent-still repo w.state.hosted old new here still)

    pub unlist-without : Leaves due_here wanting before later → Recorded w then_left (unlist repo) no_memory before later
    unlist-without leaves = recorded-so w then_left (unlist repo) no_memory before later (record { settings = refl; calls = refl; answered = inr (refl, refl); left = left-still }) (due-so wanting leaves)

    pub unlist-failed : (due_here ≡ [] → ⊥) → Leaves due_here failing before later → Recorded w then_left (unlist repo) store_fault before later
    unlist-failed asked leaves =
        failed-so w then_left (unlist repo) before later refl refl left-still
        (subst (λ found. IsTrue (commits (unlist repo) (unlist_of w.state.last found).effects)) (sym here) (some-items due_here asked)) (due-so failing leaves)

-- what a Collect records
pub collect-items : (w : Parts) → items_due w collect ≡ recorded (expire_all w.settings.grace w.state.last w.state.hosted)
collect-items w =
    let gone = expire_all w.settings.grace w.state.last w.state.hosted in
    flat_map-append items_of gone (forgets (unlent (with_effects w.state gone).yard) ∷ []) ∙ append-nil (recorded gone)

-- what goes at a Collect, as its parts see it
module _ (w v : Parts) (same : v ≡ w) (grace : ℕ) where
  pub blobs-at : (blobs : List ℕ) → grace ≡ w.settings.grace → blobs ≡ map blob_of (expire_all grace w.state.last w.state.hosted) → blobs ≡ map blob_of (expire_all v.settings.grace v.state.last v.state.hosted)
  blobs-at blobs seconds made =
      subst (λ (p : Parts). blobs ≡ map blob_of (expire_all p.settings.grace p.state.last p.state.hosted)) (sym same) (made ∙ ap (λ s. map blob_of (expire_all s w.state.last w.state.hosted)) seconds)

  pub counts-at : (counts : List ℕ) → grace ≡ w.settings.grace → counts ≡ shares grace w.state.last most_rows w.state.hosted → counts ≡ shares v.settings.grace v.state.last most_rows v.state.hosted
  counts-at counts seconds made =
      subst (λ (p : Parts). counts ≡ shares p.settings.grace p.state.last most_rows p.state.hosted) (sym same) (made ∙ ap (λ s. shares s w.state.last most_rows w.state.hosted) seconds)

  pub change-at : (hosted : List Hosted) (change : List Item) → grace ≡ v.settings.grace → hosted ≡ v.state.hosted → change ≡ recorded (expire_all grace v.state.last hosted)
      → change ≡ recorded (expire_all w.settings.grace w.state.last w.state.hosted)
  change-at hosted change seconds there made =
      subst (λ (p : Parts). change ≡ recorded (expire_all p.settings.grace p.state.last p.state.hosted)) same
      (made ∙ ap (λ s. recorded (expire_all s v.state.last hosted)) seconds ∙ ap (λ hs. recorded (expire_all v.settings.grace v.state.last hs)) there)

-- a Collect whose change was recorded
pub collect-done : (w new : Parts) (reply : Reply) (change : List Item) (before later : Shown) → Turned w new collect reply → is_free reply ≡ false
    → change ≡ recorded (expire_all w.settings.grace w.state.last w.state.hosted) → Leaves change done before later → Recorded w new collect reply before later
collect-done w new reply change before later turned bound made leaves =
    recorded-so w new collect reply before later turned
    (committed-by (items_due w collect) before later reply bound (subst (λ items. Leaves items done before later) (made ∙ sym (collect-items w)) leaves))

-- one whose records failed, and one that wanted memory
pub collect-failed : (w : Parts) (before later : Shown) → Leaves (items_due w collect) failing before later → Recorded w w collect store_fault before later
collect-failed w before later leaves = failed-so w w collect before later refl refl refl refl leaves

pub collect-without : (w : Parts) (before later : Shown) → Leaves (items_due w collect) wanting before later → Recorded w w collect no_memory before later
collect-without w before later leaves = recorded-so w w collect no_memory before later (turned-without w collect refl) leaves

-- what a Collect leaves: the rows whose grace is over are gone, and so is garbage that nobody has borrowed
pub turned-collected : (w : Parts) (hosted : List Hosted) (between after : Yard) (n : ℕ) (blobs : List ℕ) → AreNamedApart (map (λ (h : Hosted). h.rule) w.state.hosted)
    → hosted ≡ dropped_by w.settings.grace w.state.last (shares w.settings.grace w.state.last most_rows w.state.hosted) w.state.hosted
    → between ≡ condemned_by (map blob_of (expire_all w.settings.grace w.state.last w.state.hosted)) w.state.yard
    → n ≡ length (expire_all w.settings.grace w.state.last w.state.hosted) → blobs ≡ unlent between → after ≡ yard_after (forgets (unlent between)) between
    → Turned w (record w { state = record w.state { hosted = hosted; yard = after } }) collect (collected n blobs)
turned-collected w hosted between after n blobs apart rows yard count told forgot =
    let s = w.state in
    let gone = expire_all w.settings.grace s.last s.hosted in
    let left : State = record s { hosted = hosted; yard = between } in
    let is : with_effects s gone ≡ left =
    expired-all w.settings.grace s.last s apart ∙ ap (λ hs. record s { hosted = hs; yard = condemned_by (map blob_of gone) s.yard }) (sym rows) ∙ ap (λ y. record s { hosted = hosted; yard = y }) (sym yard) in
    let same : unlent between ≡ unlent (with_effects s gone).yard = ap (λ (t : State). unlent t.yard) (sym is) in
    record {
      settings = refl;
      calls = refl;
      answered = inl (ap (λ k. collected k blobs) count ∙ ap (collected (length gone)) (told ∙ same));
      left =
          ap (λ y. record s { hosted = hosted; yard = y }) forgot
          ∙ ap (λ ns. with_effect left (forgets ns)) same
          ∙ ap (λ t. with_effect t (forgets (unlent (with_effects s gone).yard))) (sym is)
          ∙ sym (with_effects-append gone (forgets (unlent (with_effects s gone).yard) ∷ []) s);
    }

-- the rows that a Collect leaves are in use
pub collected-used : (w : Parts) (kept : List ℕ) → IsOrderly w → AreInUse kept w.state.hosted → let grace = w.settings.grace in let s = w.state in
    AreInUse (kept_without (map blob_of (expire_all grace s.last s.hosted)) kept) (dropped_by grace s.last (shares grace s.last most_rows s.hosted) s.hosted)
collected-used w kept orderly used =
    let grace = w.settings.grace in
    let s = w.state in
    let gone = map blob_of (expire_all grace s.last s.hosted) in
    let named = named-apart w.settings orderly.form in
    let apart : AreNamedApart (map (λ (h : Hosted). h.rule) s.hosted) = subst AreNamedApart (sym orderly.order.rules) named in
    let hosted = dropped_by grace s.last (shares grace s.last most_rows s.hosted) s.hosted in
    let is : with_effects s (expire_all grace s.last s.hosted) ≡ record s { hosted = hosted; yard = condemned_by gone s.yard } = expired-all grace s.last s apart in
    all-still gone kept hosted
    (λ n some. none-gone grace s.last s orderly.places w.settings orderly.order named (ap (λ (t : State). t.yard) is) n (subst (λ hs. 1 ≤ rows_with n hs) (sym (ap (λ (t : State). t.hosted) is)) some))
    (dropped-used grace s.last kept s.hosted apart used)

pub collected-cached : (w : Parts) (kept : List ℕ) → IsOrderly w → AreCachedInUse kept w.state.proxies
    → AreCachedInUse (kept_without (map blob_of (expire_all w.settings.grace w.state.last w.state.hosted)) kept) w.state.proxies
collected-cached w kept orderly used =
    let s = w.state in
    cached-still (map blob_of (expire_all w.settings.grace s.last s.hosted)) kept s.proxies (λ n some. none-of-proxies w.settings.grace s.last s orderly.places n some) used

pub collected-once : (w : Parts) (kept : List ℕ) → IsOrderly w → AreInUse kept w.state.hosted → AreKeptOnce (map blob_of (expire_all w.settings.grace w.state.last w.state.hosted)) kept
collected-once w kept orderly used = gone-once w.settings.grace w.state.last w.state orderly.places kept used

removal-going : (es : List Effect) → AllByRecursion IsRemoval es → AllByRecursion IsGoing es
removal-going [] all = tt
removal-going (expires repo path blob ∷ es) all = (tt, removal-going es all.1)
removal-going (e ∷ es) all = absurd all.0

removal-garbage : (es : List Effect) → AllByRecursion IsRemoval es → garbage_of es ≡ map blob_of es
removal-garbage [] all = refl
removal-garbage (expires repo path blob ∷ es) all = ap (λ ns. blob ∷ ns) (removal-garbage es all.1)
removal-garbage (e ∷ es) all = absurd all.0

removal-sessions : (es : List Effect) (sessions : List Session) → AllByRecursion IsRemoval es → sessions_after_all es sessions ≡ sessions
removal-sessions [] sessions all = refl
removal-sessions (expires repo path blob ∷ es) sessions all = removal-sessions es sessions all.1
removal-sessions (e ∷ es) sessions all = absurd all.0

-- the staged files keep their blobs at a Collect
pub collected-staged : (w : Parts) (kept : List ℕ) → IsOrderly w → AreInUse kept w.state.hosted → AreStagedInUse kept w.state.sessions
    → AreStagedInUse (kept_without (map blob_of (expire_all w.settings.grace w.state.last w.state.hosted)) kept) w.state.sessions
collected-staged w kept orderly used staged =
    let grace = w.settings.grace in
    let s = w.state in
    let es = expire_all grace s.last s.hosted in
    let named = named-apart w.settings orderly.form in
    let removal : AllByRecursion IsRemoval es = removals grace s.last s.hosted in
    let may : AllMay grace s.last s es = expires-all grace s.last s w.settings named orderly.order.rules (all-apart s.hosted orderly.order.rows) in
    let cover = covered-then grace s.last es s (removal-going es removal) may orderly.places kept (covers kept s.hosted s.sessions used staged) in
    let so : AreStagedInUse (kept_without (garbage_of es) kept) (sessions_after_all es s.sessions) =
    covered-files (kept_without (garbage_of es) kept) (sessions_after_all es s.sessions) (λ n some. cover n (omega (arith, some))) in
    subst (λ ns. AreStagedInUse (kept_without ns kept) s.sessions) (removal-garbage es removal) (subst (AreStagedInUse (kept_without (garbage_of es) kept)) (removal-sessions es s.sessions removal) so)
