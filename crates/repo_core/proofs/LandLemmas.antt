-- What came of a fetch lands: what it leaves, by what it answers.
use Rattle.std.proofs.Common.{◌≡◌, ◌≢◌, ◌⊎◌, ℕ, Bool, true, false, if◌then◌else◌, List, [], ◌∷◌, Option, Some, None, Result, Ok, inl, inr, refl, sym, ap, ◌∙◌, subst, bytes_eq, cond, eqb-true, ◌||◌}
use Rattle.std.specs.Prelude.{◌==◌, IsTrue, find, is_some, nat_lt}
use Rattle.std.specs.List.{list_any}
use Rattle.std.specs.Option.{ForSome}
use Rattle.std.proofs.lemmas.Bool.{and_parts, false≢true}
use Rattle.std.proofs.lemmas.Option.{none-some}
use Rattle.mvn_coords.specs.Kind.{kind}
use Rattle.mvn_coords.specs.declared.fault.PathFault.{PathFault}
use Rattle.mvn_coords.specs.declared.kind.Kind.{Kind}
use Rattle.mvn_coords.specs.declared.kind.Kind.TheVariants.{File, Doc}
use Rattle.mvn_metadata.specs.Document.{Document}
use Rattle.fetch_plan.specs.declared.Plan.{Plan}
use Rattle.fetch_plan.specs.declared.Outcome.TheVariants.{Got, Gone}
use Rattle.repo_model.specs.Command.{is_landing, land, meets, proxy_rule_of}
use Rattle.repo_model.specs.Data.{Blob, Hosted, Proxy, Row, Session}
use Rattle.repo_model.specs.Effect.{Effect, clears_negative, proxies_after, recorded, with_effects, with_number, without_negative}
use Rattle.repo_model.specs.Fetched.{Landing, got_doc, got_file}
use Rattle.repo_model.specs.Reply.{is_free, landed, no_draft, no_memory, store_fault}
use Rattle.repo_model.specs.Settings.{ProxyRule, Settings}
use Rattle.repo_model.specs.State.{State, is_among, is_proxy, number_end, row_at}
use Rattle.repo_model.specs.Turn.{gives_draft_up, is_drawn, lands, lands_by, lands_file, says, turn}
use Rattle.repo_laws.specs.Files.{files_in}
use Rattle.row_tables.specs.Leaving.{Leaves, Shown, end_by}
use Rattle.proxy_rules.specs.Landings.{answer_of, has_failed, shown_landed}
use Rattle.proxy_rules.specs.declared.landed.Landed.{Landed}
use Rattle.proxy_rules.specs.declared.landed.Landed.TheVariants.{Kept, NotKept, StoreFault, NoMemory}
use Rattle.repo_parts.specs.Deploys.{AreStagedInUse}
use Rattle.repo_parts.specs.Hosted.{AreInUse}
use Rattle.repo_parts.specs.Proxies.{AreCachedInUse, kept_landed, proxies_after_all, proxy_rules_of, yard_landed}
use Rattle.repo_core.specs.Turn.{Recorded}
use Rattle.repo_core.specs.Whole.{Parts}
use Rattle.repo_parts.proofs.CachedLemmas.{cached-more, file-kept, other-kept}
use Rattle.repo_core.proofs.DraftLemmas.{if-so}
use Rattle.repo_parts.proofs.StagedLemmas.{staged-more}
use Rattle.repo_parts.proofs.UseLemmas.{all-more}
use Rattle.repo_core.proofs.Turning.{recorded-by}
use Rattle.repo_parts.proofs.AmongLemmas.{among-new}
use Rattle.repo_laws.proofs.Files.{proxy-rules-kept}

-- ---- what may land
-- a file lands under its draft, whose number its blob has
as-file : (k : Result Kind PathFault) (draft : Option ℕ) (blob : Blob) → is_landing k draft (Got (got_file blob)) ≡ true → draft ≡ Some blob.number
as-file (Ok (File c)) (Some n) blob is = ap Some (sym (eqb-true blob.number n (and_parts (blob.number == n) (nat_lt blob.print.length number_end) is).0))
as-file (Ok (Doc d)) None blob is = absurd (false≢true is)
as-file k draft blob is = absurd (false≢true is)

-- a document lands under none
as-document : (k : Result Kind PathFault) (draft : Option ℕ) (document : Document) → is_landing k draft (Got (got_doc document)) ≡ true → draft ≡ None
as-document k None document is = refl
as-document (Ok (File c)) (Some n) document is = absurd (false≢true is)
as-document k (Some n) document is = absurd (false≢true is)

module _ (settings : Settings) (plan : Plan) (landing : Landing) (met : IsTrue (meets settings (land plan landing))) where
  pub there-so : is_some (proxy_rule_of plan.proxy settings) ≡ true
  there-so = (and_parts (is_some (proxy_rule_of plan.proxy settings)) (is_landing (kind plan.path) plan.draft landing) met).0

  pub lands-so : is_landing (kind plan.path) plan.draft landing ≡ true
  lands-so = (and_parts (is_some (proxy_rule_of plan.proxy settings)) (is_landing (kind plan.path) plan.draft landing) met).1

-- the proxy of a rule is there
pub proxy-there : (id : List ℕ) (proxies : List Proxy) → is_some (find (λ (rule : ProxyRule). bytes_eq rule.id id) (proxy_rules_of proxies)) ≡ true → IsTrue (list_any (is_proxy id) proxies)
proxy-there id [] is = absurd (false≢true is)
proxy-there id (p ∷ proxies) is =
    elim (bytes_eq p.rule.id id)
    as (λ b. is_some (cond b (Some p.rule) (find (λ (rule : ProxyRule). bytes_eq rule.id id) (proxy_rules_of proxies))) ≡ true → IsTrue (b || list_any (is_proxy id) proxies)) [
      | true ↦ λ some. refl
      | false ↦ λ some. proxy-there id proxies some
    ] is

-- a draft that was drawn for it is one
pub drawn-so : (draft : Option ℕ) (drafts : List ℕ) → is_drawn draft drafts ≡ true → ForSome draft (λ n. IsTrue (is_among n drafts))
drawn-so None drafts drawn n is = absurd (none-some n is)
drawn-so (Some m) drafts drawn n is = let same : m ≡ n = cc in subst (λ k. IsTrue (is_among k drafts)) same drawn

-- ---- what is left
abbrev Left : State → Option ℕ → List Effect → Landed → Type 0
Left s draft effects answer =
    record s { proxies = (if has_failed answer then s.proxies else proxies_after_all effects s.proxies); yard = yard_landed draft answer s.yard }
    ≡ with_effects s (if has_failed answer then [] else effects)

failed-left : (s : State) (draft : Option ℕ) (effects : List Effect) (answer : Landed) → has_failed answer ≡ true → Left s draft effects answer
failed-left s draft effects Kept is = absurd (false≢true is)
failed-left s draft effects NotKept is = absurd (false≢true is)
failed-left s None effects answer is = refl
failed-left s (Some n) effects answer is = refl

-- its draft is given up after other effects, by which nothing is kept
up-left : (s : State) (draft : Option ℕ) → Left s draft (gives_draft_up draft) (answer_of (gives_draft_up draft))
up-left s None = refl
up-left s (Some n) = refl

cleared-left : (s : State) (plan : Plan) (draft : Option ℕ) → Left s draft (clears_negative plan.proxy plan.path ∷ gives_draft_up draft) (answer_of (clears_negative plan.proxy plan.path ∷ gives_draft_up draft))
cleared-left s plan None = refl
cleared-left s plan (Some n) = refl

file-left : (s : State) (plan : Plan) (blob : Blob) (now : ℕ) (found : Option Row) → plan.draft ≡ Some blob.number → Left s plan.draft (lands_file plan blob now found) (answer_of (lands_file plan blob now found))
file-left s plan blob now None is = ap (λ draft. record s { proxies = proxies_after_all (lands_file plan blob now None) s.proxies; yard = yard_landed draft Kept s.yard }) is
file-left s plan blob now (Some row) is = cleared-left s plan plan.draft

document-left : (s : State) (plan : Plan) (document : Document) (files : List Row) (now : ℕ) → plan.draft ≡ None
    → Left s plan.draft (lands_by files now plan (Got (got_doc document))) (answer_of (lands_by files now plan (Got (got_doc document))))
document-left s plan document files now is =
    ap (λ draft. record s { proxies = proxies_after_all (lands_by files now plan (Got (got_doc document))) s.proxies; yard = yard_landed draft NotKept s.yard }) is

gone-left : (s : State) (plan : Plan) (files : List Row) (now : ℕ) (draft : Option ℕ) → plan.draft ≡ draft → Left s draft (lands_by files now plan Gone) (answer_of (lands_by files now plan Gone))
gone-left s plan files now None is = rw is refl
gone-left s plan files now (Some n) is = rw is refl

landing-left : (s : State) (files : List Row) (now : ℕ) (plan : Plan) (landing : Landing) → is_landing (kind plan.path) plan.draft landing ≡ true
    → Left s plan.draft (lands_by files now plan landing) (answer_of (lands_by files now plan landing))
landing-left s files now plan (Got (got_file blob)) fits = file-left s plan blob now (row_at plan.path files) (as-file (kind plan.path) plan.draft blob fits)
landing-left s files now plan (Got (got_doc document)) fits = document-left s plan document files now (as-document (kind plan.path) plan.draft document fits)
landing-left s files now plan Gone fits = gone-left s plan files now plan.draft refl
landing-left s files now plan landing fits = up-left s plan.draft

-- ---- the turn
free-so : (answer : Landed) → has_failed answer ≡ true → IsTrue (is_free (shown_landed answer))
free-so answer is = is

due-so : (effects : List Effect) → shown_landed (answer_of effects) ≡ landed
due-so effects = by (list_any _ effects)
  where
    by : (b : Bool) → shown_landed (if b then Kept else NotKept) ≡ landed
    by true = refl
    by false = refl

fault-so : (answer : Landed) → shown_landed answer ≡ store_fault → answer ≡ StoreFault
fault-so Kept is = absurd (let no : landed ≡ store_fault = is in cc)
fault-so NotKept is = absurd (let no : landed ≡ store_fault = is in cc)
fault-so StoreFault is = refl
fault-so NoMemory is = absurd (let no : no_memory ≡ store_fault = is in cc)

module _ (w new : Parts) (plan : Plan) (landing : Landing) (answer : Landed) where
  abbrev effects : List Effect
  effects = lands w.state w.state.last plan landing

  pub land-turn : is_drawn plan.draft w.state.yard.drafts ≡ true → turn w.settings w.state w.state.last (land plan landing) ≡ record { reply = landed; effects = effects }
  land-turn drawn = if-so (is_drawn plan.draft w.state.yard.drafts) (record { reply = landed; effects = effects }) (says no_draft) (sym drawn)

  given-so : (answer ≡ answer_of effects) ⊎ IsTrue (has_failed answer) → (answer ≡ StoreFault → recorded effects ≢ [])
      → (shown_landed answer ≡ landed) ⊎ (IsTrue (is_free (shown_landed answer)) × (shown_landed answer ≡ store_fault → recorded effects ≡ [] → ⊥))
  given-so (inl is) asked = inl (ap shown_landed is ∙ due-so effects)
  given-so (inr failed) asked = inr (failed, λ fault none. asked (fault-so answer fault) none)

  left-so : (answer ≡ answer_of effects) ⊎ IsTrue (has_failed answer) → is_landing (kind plan.path) plan.draft landing ≡ true → Left w.state plan.draft effects answer
  left-so (inl is) fits = subst (Left w.state plan.draft effects) (sym is) (landing-left w.state (files_in plan.proxy w.state.proxies) w.state.last plan landing fits)
  left-so (inr failed) fits = failed-left w.state plan.draft effects answer failed

  pub recorded-land : (before later : Shown) → is_drawn plan.draft w.state.yard.drafts ≡ true → IsTrue (meets w.settings (land plan landing)) → new.settings ≡ w.settings → new.calls ≡ w.calls
      → (answer ≡ answer_of effects) ⊎ IsTrue (has_failed answer) → (answer ≡ StoreFault → recorded effects ≢ [])
      → new.state ≡ record w.state { proxies = (if has_failed answer then w.state.proxies else proxies_after_all effects w.state.proxies); yard = yard_landed plan.draft answer w.state.yard }
      → Leaves (recorded effects) (end_by (shown_landed answer)) before later
      → Recorded w new (land plan landing) (shown_landed answer) before later
  recorded-land before later drawn met settings calls answered asked state leaves =
      recorded-by w new (land plan landing) (record { reply = landed; effects = effects }) (shown_landed answer) before later (land-turn drawn) refl (given-so answered asked) settings calls
      (state ∙ left-so answered (lands-so w.settings plan landing met)) leaves

-- ---- what holds of the parts
-- the rules of proxies stay
pub landed-rules : (failed : Bool) (effects : List Effect) (proxies : List Proxy) → proxy_rules_of (if failed then proxies else proxies_after_all effects proxies) ≡ proxy_rules_of proxies
landed-rules true effects proxies = refl
landed-rules false [] proxies = refl
landed-rules false (e ∷ effects) proxies = landed-rules false effects (proxies_after e proxies) ∙ proxy-rules-kept e proxies

-- what is in use stays so
pub hosted-landed : (draft : Option ℕ) (answer : Landed) (kept : List ℕ) (hosted : List Hosted) → AreInUse kept hosted → AreInUse (kept_landed draft answer kept) hosted
hosted-landed (Some n) Kept kept hosted used = all-more kept n hosted used
hosted-landed draft answer kept hosted used = used

pub staged-landed : (draft : Option ℕ) (answer : Landed) (kept : List ℕ) (sessions : List Session) → AreStagedInUse kept sessions → AreStagedInUse (kept_landed draft answer kept) sessions
staged-landed (Some n) Kept kept sessions used = staged-more kept n sessions used
staged-landed draft answer kept sessions used = used

abbrev CachedLeft : List ℕ → Option ℕ → List Effect → Landed → List Proxy → Type 0
CachedLeft kept draft effects answer proxies = AreCachedInUse (kept_landed draft answer kept) (if has_failed answer then proxies else proxies_after_all effects proxies)

module _ (kept : List ℕ) (proxies : List Proxy) (used : AreCachedInUse kept proxies) where
  cached-failed : (draft : Option ℕ) (effects : List Effect) (answer : Landed) → has_failed answer ≡ true → CachedLeft kept draft effects answer proxies
  cached-failed draft done Kept is = absurd (false≢true is)
  cached-failed draft done NotKept is = absurd (false≢true is)
  cached-failed None done answer is = used
  cached-failed (Some n) done answer is = used

  cached-up : (draft : Option ℕ) → CachedLeft kept draft (gives_draft_up draft) (answer_of (gives_draft_up draft)) proxies
  cached-up None = used
  cached-up (Some n) = used

  cleared-used : (plan : Plan) → AreCachedInUse kept (proxies_after (clears_negative plan.proxy plan.path) proxies)
  cleared-used plan = other-kept kept plan.proxy (λ (p : Proxy). record p { negatives = without_negative plan.path p.negatives }) (λ p. refl) proxies used

  cached-cleared : (plan : Plan) (draft : Option ℕ) → CachedLeft kept draft (clears_negative plan.proxy plan.path ∷ gives_draft_up draft) (answer_of (clears_negative plan.proxy plan.path ∷ gives_draft_up draft)) proxies
  cached-cleared plan None = cleared-used plan
  cached-cleared plan (Some n) = cleared-used plan

  cached-file : (plan : Plan) (blob : Blob) (now : ℕ) (found : Option Row) → plan.draft ≡ Some blob.number → CachedLeft kept plan.draft (lands_file plan blob now found) (answer_of (lands_file plan blob now found)) proxies
  cached-file plan blob now None is =
      subst (λ draft. AreCachedInUse (kept_landed draft Kept kept) (proxies_after_all (lands_file plan blob now None) proxies)) (sym is)
      (other-kept (with_number blob.number kept) plan.proxy (λ (p : Proxy). record p { negatives = without_negative plan.path p.negatives }) (λ p. refl) _
      (file-kept (with_number blob.number kept) plan.proxy _ proxies (cached-more kept blob.number proxies used) (among-new blob.number kept)))
  cached-file plan blob now (Some row) is = cached-cleared plan plan.draft

  cached-document : (plan : Plan) (document : Document) (files : List Row) (now : ℕ) → plan.draft ≡ None
      → CachedLeft kept plan.draft (lands_by files now plan (Got (got_doc document))) (answer_of (lands_by files now plan (Got (got_doc document)))) proxies
  cached-document plan document files now is =
      subst (λ draft. AreCachedInUse (kept_landed draft NotKept kept) (proxies_after_all (lands_by files now plan (Got (got_doc document))) proxies)) (sym is)
      (other-kept kept plan.proxy (λ (p : Proxy). record p { negatives = without_negative plan.path p.negatives }) (λ p. refl) _ (other-kept kept plan.proxy _ (λ p. refl) proxies used))

  cached-gone : (plan : Plan) (files : List Row) (now : ℕ) (draft : Option ℕ) → plan.draft ≡ draft → CachedLeft kept draft (lands_by files now plan Gone) (answer_of (lands_by files now plan Gone)) proxies
  cached-gone plan files now None is = rw is (other-kept kept plan.proxy _ (λ p. refl) proxies used)
  cached-gone plan files now (Some n) is = rw is (other-kept kept plan.proxy _ (λ p. refl) proxies used)

  cached-landing : (files : List Row) (now : ℕ) (plan : Plan) (landing : Landing) → is_landing (kind plan.path) plan.draft landing ≡ true
      → CachedLeft kept plan.draft (lands_by files now plan landing) (answer_of (lands_by files now plan landing)) proxies
  cached-landing files now plan (Got (got_file blob)) fits = cached-file plan blob now (row_at plan.path files) (as-file (kind plan.path) plan.draft blob fits)
  cached-landing files now plan (Got (got_doc document)) fits = cached-document plan document files now (as-document (kind plan.path) plan.draft document fits)
  cached-landing files now plan Gone fits = cached-gone plan files now plan.draft refl
  cached-landing files now plan landing fits = cached-up plan.draft

  pub cached-landed : (files : List Row) (now : ℕ) (plan : Plan) (landing : Landing) (answer : Landed) → is_landing (kind plan.path) plan.draft landing ≡ true
      → (answer ≡ answer_of (lands_by files now plan landing)) ⊎ IsTrue (has_failed answer) → CachedLeft kept plan.draft (lands_by files now plan landing) answer proxies
  cached-landed files now plan landing answer fits (inl is) = subst (λ a. CachedLeft kept plan.draft (lands_by files now plan landing) a proxies) (sym is) (cached-landing files now plan landing fits)
  cached-landed files now plan landing answer fits (inr failed) = cached-failed plan.draft (lands_by files now plan landing) answer failed
