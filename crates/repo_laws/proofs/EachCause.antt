-- Each refusal has its cause, and comes where there is one.
use Rattle.std.proofs.Common.{◌≡◌, ◌⊎◌, inl, inr, ℕ, Bool, true, false, not, ◌||◌, [], length, refl, sym, ◌∙◌, ap, List, Option, Some, None, subst}
use Rattle.std.specs.Prelude.{◌↔◌, ◌==◌, if◌then◌else◌}
use Rattle.std.proofs.lemmas.Bool.{false≢true}
use Rattle.mvn_coords.specs.Kind.{kind}
use Rattle.repo_model.specs.Data.{repository, session}
use Rattle.repo_model.specs.Settings.{Settings}
use Rattle.repo_model.specs.State.{State, session_of, open_of, is_among}
use Rattle.repo_model.specs.Command.{Command, look, may_put, put, put_side, put_doc, open_session, stage, commit, abort, collect, land}
use Rattle.repo_model.specs.Effect.{recorded, Effect}
use Rattle.repo_model.specs.Reply.{Reply, missed, noted, no_session, no_memory, is_free, landed, no_draft}
use Rattle.repo_model.specs.Turn.{Turn, turn, says, is_drawn, lands}
use Rattle.repo_model.specs.History.{Entry, IsReply, due, wants_memory, failed, Fits, is_collect, commits}
use Rattle.repo_laws.specs.Causes.{Cause, DocRefused, LandRefused}
use Rattle.repo_laws.specs.Holds.{can_record}
use Rattle.repo_laws.specs.Replies.{is_refusal}
use Rattle.repo_laws.proofs.Answered.{reply-determined}
use Rattle.repo_laws.proofs.Cases.{Case, misses, turn-case}
use Rattle.repo_laws.proofs.HoldingTurns.{refused-quiet}
use Rattle.repo_laws.proofs.CausesPut.{no-refusal, look-caused, look-refused, may_put-caused, may_put-refused, put-caused, put-refused}
use Rattle.repo_laws.proofs.CausesSession.{may_stage-caused, may_stage-refused, side-caused, side-refused, staged_side-caused, staged_side-refused, doc-caused, doc-refused, open-caused, open-refused, stage-caused, stage-refused}
use Rattle.repo_laws.proofs.CausesCommit.{commit-caused, commit-refused, abort-caused, abort-refused}

-- what lands under a draft that is none
module _ (s : State) (effects : List Effect) where
  abbrev landed_or_late : Bool → Reply
  landed_or_late b = (if b then record { reply = landed; effects = effects } else says no_draft).reply

  land-caused : (under : Option ℕ) (r : Reply) → is_refusal r ≡ true → landed_or_late (is_drawn under s.yard.drafts) ≡ r → LandRefused s under r
  land-caused None r refused is = absurd (no-refusal landed r refl is refused)
  land-caused (Some n) r refused is =
      elim (is_among n s.yard.drafts) as (λ b. is_among n s.yard.drafts ≡ b → landed_or_late b ≡ r → LandRefused s (Some n) r) [
        | true ↦ λ _ e. absurd (no-refusal landed r refl e refused)
        | false ↦ λ none e. subst (LandRefused s (Some n)) e none
      ] refl is

  land-refused : (under : Option ℕ) (r : Reply) → LandRefused s under r → landed_or_late (is_drawn under s.yard.drafts) ≡ r
  land-refused (Some n) no_draft none = ap landed_or_late none
  land-refused under r cause = absurd cause

-- a command that may be refused
abbrev is_refusable : Command → Bool
is_refusable (look repo path tried) = true
is_refusable (may_put place path) = true
is_refusable (put repo path n blob) = true
is_refusable (put_side place path said) = true
is_refusable (put_doc place path) = true
is_refusable (open_session repo) = true
is_refusable (stage at path n blob) = true
is_refusable (commit n) = true
is_refusable (abort n) = true
is_refusable (land plan outcome) = true
is_refusable c = false

module _ (settings : Settings) (s : State) (now : ℕ) where
  -- no other command is
  case-refusable : (c : Command) (t : Turn) → Case settings s now c t → is_refusal t.reply ≡ true → is_refusable c ≡ true
  case-refusable c t (misses repo path tried) refused = refl
  case-refusable c t case refused = cc

  caused : (c : Command) (r : Reply) → is_refusal r ≡ true → (turn settings s now c).reply ≡ r → Cause settings s now c r
  caused (look repo path tried) r refused is = look-caused settings s now repo path tried r refused is
  caused (may_put (repository repo) path) r refused is = may_put-caused s repo path r refused is
  caused (may_put (session n) path) r refused is = may_stage-caused s n path r refused (open_of n s) refl is
  caused (put repo path n blob) r refused is = put-caused s now repo path n blob r refused is
  caused (put_side (repository repo) path said) r refused is = side-caused s (repository repo) path said tt r refused (kind path) refl is
  caused (put_side (session n) path said) r refused is = staged_side-caused s n path said r refused (open_of n s) refl is
  caused (put_doc (repository repo) path) r refused is = absurd (no-refusal noted r refl is refused)
  caused (put_doc (session n) path) r refused is = doc-caused s n path [] r refused (open_of n s) refl is
  caused (open_session repo) r refused is = open-caused s repo r refused is
  caused (stage at path n blob) r refused is = stage-caused s at path n blob r refused is
  caused (commit n) r refused is = commit-caused s now n r refused (session_of n s) refl is
  caused (abort n) r refused is = abort-caused s now n r refused (session_of n s) refl is
  caused (land plan outcome) r refused is = land-caused s (lands s now plan outcome) plan.draft r refused is
  caused c r refused is = absurd (false≢true (case-refusable c (turn settings s now c) (turn-case settings s now c) (ap is_refusal is ∙ refused)))

  refused-so : (c : Command) (r : Reply) → Cause settings s now c r → (turn settings s now c).reply ≡ r
  refused-so (look repo path tried) r cause = look-refused settings s now repo path tried r cause
  refused-so (may_put (repository repo) path) r cause = may_put-refused s repo path r cause
  refused-so (may_put (session n) path) r cause = may_stage-refused s n path r cause
  refused-so (put repo path n blob) r cause = put-refused s now repo path n blob r cause
  refused-so (put_side (repository repo) path said) r cause = side-refused s (repository repo) path said tt r cause
  refused-so (put_side (session n) path said) r cause = staged_side-refused s n path said r cause
  refused-so (put_doc (repository repo) path) r cause = none r cause where
    none : (r : Reply) → DocRefused s (repository repo) r → noted ≡ r
    none no_session cause = absurd cause
    none r cause = absurd cause
  refused-so (put_doc (session n) path) r cause = doc-refused s n path [] r cause
  refused-so (open_session repo) r cause = open-refused s repo r cause
  refused-so (stage at path n blob) r cause = stage-refused s at path n blob r cause
  refused-so (commit n) r cause = commit-refused s now n r cause
  refused-so (abort n) r cause = abort-refused s now n r cause
  refused-so (land plan outcome) r cause = land-refused s (lands s now plan outcome) plan.draft r cause
  refused-so c r cause = absurd cause

  pub each-cause : (c : Command) (r : Reply) → is_refusal r ≡ true → ((turn settings s now c).reply ≡ r) ↔ Cause settings s now c r
  each-cause c r refused = (caused c r refused, refused-so c r)

-- ---- entries
refusal-quiet : (r : Reply) → is_refusal r ≡ true → can_record r ≡ false
refusal-quiet missed refused = refl
refusal-quiet r refused = cc

caused-elsewhere : (settings : Settings) (s : State) (now : ℕ) (c : Command) (r : Reply) → Cause settings s now c r → is_collect c ≡ false
caused-elsewhere settings s now collect r cause = absurd cause
caused-elsewhere settings s now (look repo path tried) r cause = refl
caused-elsewhere settings s now c r cause = refl

pub entry-cause : (settings : Settings) (old : State) (e : Entry) → Fits settings old e → is_free e.reply ≡ false → is_refusal e.reply ≡ true → Cause settings old e.moment e.command e.reply
entry-cause settings old e fits bound refused = caused settings old e.moment e.command e.reply refused (sym (reply-determined settings old e fits bound))

pub cause-entry : (settings : Settings) (old : State) (e : Entry) (r : Reply) → Fits settings old e → is_refusal r ≡ true → Cause settings old e.moment e.command r → (e.reply ≡ r) ⊎ (e.reply ≡ no_memory)
cause-entry settings old e r fits refused cause = by fits.reply where
  is : (turn settings old e.moment e.command).reply ≡ r
  is = refused-so settings old e.moment e.command r cause

  by : IsReply settings old e → (e.reply ≡ r) ⊎ (e.reply ≡ no_memory)
  by (due due_is _) = inl (due_is ∙ is)
  by (wants_memory wanting _ _) = inr wanting
  by (failed _ commits_so _) =
      let quiet = refused-quiet settings old e.moment e.command (ap can_record is ∙ refusal-quiet r refused) in
      let none : commits e.command (turn settings old e.moment e.command).effects ≡ false =
      ap (λ b. b || not (length (recorded (turn settings old e.moment e.command).effects) == 0)) (caused-elsewhere settings old e.moment e.command r cause)
      ∙ ap (λ items. not (length items == 0)) quiet in
      absurd (false≢true (sym none ∙ commits_so))
