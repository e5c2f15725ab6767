-- A file that a proxy keeps stays there, one that lands is kept, and both outlast a start.
use Rattle.std.proofs.Common.{◌≡◌, ℕ, Bool, true, false, List, [], ◌∷◌, Option, Some, None, refl, sym, ◌∙◌, ap, subst, option_map}
use Rattle.std.specs.Prelude.{IsTrue, if◌then◌else◌, is_some}
use Rattle.std.specs.List.{list_any}
use Rattle.std.proofs.lemmas.Bool.{and_parts}
use Rattle.std.proofs.lemmas.Option.{none-some}
use Rattle.fetch_plan.specs.declared.Plan.{Plan}
use Rattle.fetch_plan.specs.declared.Outcome.TheVariants.{Got}
use Rattle.mvn_coords.specs.Kind.{kind}
use Rattle.repo_model.specs.Fetched.{got_file}
use Rattle.repo_model.specs.Data.{Blob, Row, Kept, Proxy}
use Rattle.repo_model.specs.Settings.{Settings}
use Rattle.repo_model.specs.State.{State, is_proxy, row_at, files_of}
use Rattle.repo_model.specs.Proxies.{kept_at}
use Rattle.repo_model.specs.Effect.{Effect, caches, keeps_doc, adds_negative, clears_negative, with_row, new_row, proxy_after, with_effect, with_effects}
use Rattle.repo_model.specs.May.{May}
use Rattle.repo_model.specs.Command.{Command, land, proxy_rule_of, is_landing, meets}
use Rattle.repo_model.specs.Reply.{Reply, landed, no_draft, is_free}
use Rattle.repo_model.specs.Tables.{Tables, RecordedDocument}
use Rattle.repo_model.specs.Turn.{Turn, turn, says, is_drawn, gives_draft_up, lands_file, lands}
use Rattle.repo_model.specs.History.{Entry, Fits, Legal, ticked, after, end}
use Rattle.repo_laws.specs.Files.{documents_in, recorded_kept}
use Rattle.repo_laws.specs.Laws.{without_bytes}
use Rattle.repo_laws.specs.Holds.{Holds}
use Rattle.repo_laws.specs.Proxied.{LandsFile}
use Rattle.repo_laws.specs.Sound.{AreNamedApart, Sound, IsSound}
use Rattle.repo_laws.proofs.Answered.{reply-determined}
use Rattle.repo_laws.proofs.Files.{files-changed}
use Rattle.repo_laws.proofs.Histories.{entry-keeps, sound-entry}
use Rattle.repo_laws.proofs.HoldingRows.{row-new}
use Rattle.repo_laws.proofs.Landing.{proxy-there-as-set}
use Rattle.repo_laws.proofs.Rows.{part-there}
use Rattle.repo_laws.proofs.Releases.{other_path, with_row-elsewhere}
use Rattle.proxy_laws.specs.Limits.{kept_first}

-- ---- effects, entries, histories
pub file-stays : (grace now : ℕ) (s : State) (e : Effect) (id path : List ℕ) (row : Row) → May grace now s e → row_at path (files_of id s) ≡ Some row → row_at path (files_of id (with_effect s e)) ≡ Some row
file-stays grace now s (caches at new blob moment) id path row may is =
    files-changed id at (proxy_after (caches at new blob moment)) (λ p. refl) (λ rows. row_at path rows ≡ Some row) s.proxies is
    (λ p at_is found old.
    with_row-elsewhere path (new_row new blob moment) p.files
    (other_path new path (λ same.
    let both : row_at new (files_of at s) ≡ Some row = subst (λ (x : List ℕ). row_at new (files_of x s) ≡ Some row) (sym at_is) (subst (λ (x : List ℕ). row_at x (files_of id s) ≡ Some row) (sym same) is) in
    none-some row (sym may.3 ∙ both)))
    ∙ old)
file-stays grace now s (keeps_doc at new document moment) id path row may is =
    files-changed id at (proxy_after (keeps_doc at new document moment)) (λ p. refl) (λ rows. row_at path rows ≡ Some row) s.proxies is (λ p at_is found old. old)
file-stays grace now s (adds_negative at new moment) id path row may is =
    files-changed id at (proxy_after (adds_negative at new moment)) (λ p. refl) (λ rows. row_at path rows ≡ Some row) s.proxies is (λ p at_is found old. old)
file-stays grace now s (clears_negative at new) id path row may is =
    files-changed id at (proxy_after (clears_negative at new)) (λ p. refl) (λ rows. row_at path rows ≡ Some row) s.proxies is (λ p at_is found old. old)
file-stays grace now s e id path row may is = is

module _ (settings : Settings) (apart : AreNamedApart settings.hosted) (id path : List ℕ) (row : Row) where
  entry-stays : (old : State) (e : Entry) → Sound settings old → Fits settings old e → row_at path (files_of id old) ≡ Some row → row_at path (files_of id (after settings old e)) ≡ Some row
  entry-stays old e sound fits is =
      entry-keeps settings apart old e (λ t. row_at path (files_of id t) ≡ Some row) fits sound (λ t f _ may kept. file-stays settings.grace e.moment t f id path row may kept) is

  history-stays : (entries : List Entry) (start : State) → Sound settings start → Legal settings start entries → row_at path (files_of id start) ≡ Some row → row_at path (files_of id (end settings start entries)) ≡ Some row
  history-stays [] start sound legal is = is
  history-stays (e ∷ entries) start sound legal is =
      history-stays entries (after settings start e) (sound-entry settings apart start e legal.0 sound) legal.1 (entry-stays start e sound legal.0 is)

pub file-after-entry : (settings : Settings) (old : State) (e : Entry) (id path : List ℕ) (row : Row) → AreNamedApart settings.hosted → IsSound settings old → Fits settings old e
    → row_at path (files_of id old) ≡ Some row → row_at path (files_of id (after settings old e)) ≡ Some row
file-after-entry settings old e id path row apart sound fits is = entry-stays settings apart id path row old e sound.order fits is

pub file-after-history : (settings : Settings) (start : State) (entries : List Entry) (id path : List ℕ) (row : Row) → AreNamedApart settings.hosted → IsSound settings start
    → Legal settings start entries → row_at path (files_of id start) ≡ Some row → row_at path (files_of id (end settings start entries)) ≡ Some row
file-after-history settings start entries id path row apart sound legal is = history-stays settings apart id path row entries start sound.order legal is

-- ---- what lands
-- a negative entry that is cleared changes no file, and neither does a draft that is given up
cleared-files : (id at path : List ℕ) (found : Option Row) (s : State) → row_at path (files_of id s) ≡ found → row_at path (files_of id (with_effect s (clears_negative at path))) ≡ found
cleared-files id at path found s is =
    files-changed id at (proxy_after (clears_negative at path)) (λ p. refl) (λ rows. row_at path rows ≡ found) s.proxies is (λ p at_is there old. old)

given-up-files : (under : Option ℕ) (id path : List ℕ) (found : Option Row) (s : State) → row_at path (files_of id s) ≡ found → row_at path (files_of id (with_effects s (gives_draft_up under))) ≡ found
given-up-files None id path found s is = is
given-up-files (Some n) id path found s is = is

module _ (s : State) (plan : Plan) (blob : Blob) (now : ℕ) (there : list_any (is_proxy plan.proxy) s.proxies ≡ true) where
  file-lands : (found : Option Row) → row_at plan.path (files_of plan.proxy s) ≡ found
      → row_at plan.path (files_of plan.proxy (with_effects s (lands_file plan blob now found))) ≡ Some (kept_first found (new_row plan.path blob now))
  file-lands None free =
      let f : Proxy → Proxy = proxy_after (caches plan.proxy plan.path blob now) in
      let new : Row = new_row plan.path blob now in
      let rows_then : files_of plan.proxy (with_effect s (caches plan.proxy plan.path blob now)) ≡ with_row new (files_of plan.proxy s) =
      part-there (λ (p : Proxy). p.rule.id) f (λ p. refl) (λ (p : Proxy). p.files) (with_row new) (λ p. refl) plan.proxy s.proxies there in
      cleared-files plan.proxy plan.proxy plan.path (Some new) (with_effect s (caches plan.proxy plan.path blob now))
      (ap (row_at plan.path) rows_then ∙ row-new new (files_of plan.proxy s) free)
  file-lands (Some row) found =
      given-up-files plan.draft plan.proxy plan.path (Some row) (with_effect s (clears_negative plan.proxy plan.path))
      (cleared-files plan.proxy plan.proxy plan.path (Some row) s found)

-- what has landed had a draft
drawn-then : (b : Bool) (effects : List Effect) → (if b then record { reply = landed; effects = effects } else says no_draft).reply ≡ landed → b ≡ true
drawn-then true effects is = refl
drawn-then false effects is = absurd (cc)

module _ (settings : Settings) (s : State) (now faults : ℕ) (blob : Blob) (sound : IsSound settings s) where
  abbrev effects_then : Command → Reply → List Effect
  effects_then c r = if is_free r then [] else (turn settings s now c).effects

  command-lands : (plan : Plan) → meets settings (land plan (Got (got_file blob))) ≡ true → (turn settings s now (land plan (Got (got_file blob)))).reply ≡ landed
      → row_at plan.path (files_of plan.proxy (with_effects (ticked s now faults) (effects_then (land plan (Got (got_file blob))) landed)))
      ≡ Some (kept_first (row_at plan.path (files_of plan.proxy s)) (new_row plan.path blob now))
  command-lands plan met replied =
      let known = (and_parts (is_some (proxy_rule_of plan.proxy settings)) (is_landing (kind plan.path) plan.draft (Got (got_file blob))) met).0 in
      let there : list_any (is_proxy plan.proxy) s.proxies ≡ true = proxy-there-as-set settings s plan.proxy sound.order.proxies ∙ known in
      let drawn : is_drawn plan.draft s.yard.drafts ≡ true = drawn-then (is_drawn plan.draft s.yard.drafts) (lands s now plan (Got (got_file blob))) replied in
      let t : Turn = record { reply = landed; effects = lands s now plan (Got (got_file blob)) } in
      subst
      (λ (b : Bool). row_at plan.path (files_of plan.proxy (with_effects (ticked s now faults) (if b then t else says no_draft).effects))
      ≡ Some (kept_first (row_at plan.path (files_of plan.proxy s)) (new_row plan.path blob now)))
      (sym drawn) (file-lands (ticked s now faults) plan blob now there (row_at plan.path (files_of plan.proxy s)) refl)

pub landed-kept : (settings : Settings) (old : State) (e : Entry) (id path : List ℕ) (blob : Blob) → IsSound settings old → Fits settings old e → LandsFile id path blob e
    → row_at path (files_of id (after settings old e)) ≡ Some (kept_first (row_at path (files_of id old)) (new_row path blob e.moment))
landed-kept settings old e id path blob sound fits ((plan, asks, proxy_is, path_is), replies) =
    let turned : (turn settings old e.moment e.command).reply ≡ landed = sym (reply-determined settings old e fits (ap is_free replies)) ∙ replies in
    let here =
    command-lands settings old e.moment e.faults blob sound plan (ap (meets settings) (sym asks) ∙ fits.condition)
    (ap (λ (c : Command). (turn settings old e.moment c).reply) (sym asks) ∙ turned) in
    let Kept : List ℕ → List ℕ → Command → Reply → Type 0 = λ i at c r.
    row_at at (files_of i (with_effects (ticked old e.moment e.faults) (effects_then settings old e.moment e.faults blob sound c r))) ≡ Some (kept_first (row_at at (files_of i old)) (new_row at blob e.moment)) in
    subst (λ (r : Reply). Kept id path e.command r) (sym replies)
    (subst (λ (c : Command). Kept id path c landed) (sym asks)
    (subst (λ (x : List ℕ). Kept x path (land plan (Got (got_file blob))) landed) proxy_is
    (subst (λ (x : List ℕ). Kept plan.proxy x (land plan (Got (got_file blob))) landed) path_is here)))

-- ---- what two states have that the same tables tell
pub files-outlast : (t : Tables) (old new : State) (id path : List ℕ) → Holds t old → Holds t new → IsTrue (list_any (is_proxy id) old.proxies) → IsTrue (list_any (is_proxy id) new.proxies)
    → option_map without_bytes (row_at path (files_of id new)) ≡ option_map without_bytes (row_at path (files_of id old))
files-outlast t old new id path before behind there still = sym (behind.files id path still) ∙ before.files id path there

abbrev kept_again : RecordedDocument → Kept
kept_again d = record { path = d.path; checked = d.checked; document = d.document }

same-again : (id : List ℕ) (found : Option Kept) → option_map kept_again (option_map (recorded_kept id) found) ≡ found
same-again id None = refl
same-again id (Some k) = refl

pub documents-outlast : (t : Tables) (old new : State) (id path : List ℕ) → Holds t old → Holds t new → IsTrue (list_any (is_proxy id) old.proxies) → IsTrue (list_any (is_proxy id) new.proxies)
    → kept_at path (documents_in id new.proxies) ≡ kept_at path (documents_in id old.proxies)
documents-outlast t old new id path before behind there still =
    sym (same-again id (kept_at path (documents_in id new.proxies)))
    ∙ ap (option_map kept_again) (sym (behind.documents id path still) ∙ before.documents id path there)
    ∙ same-again id (kept_at path (documents_in id old.proxies))
