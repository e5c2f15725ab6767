-- What is said to be full has just what the limit allows.
use native.Mathlib.Omega.{arith}
use Rattle.std.proofs.Common.{◌≡◌, ◌≤◌, ◌⊎◌, ℕ, true, false, length, Some, refl, sym, ◌∙◌, ap}
use Rattle.std.specs.Prelude.{◌↔◌}
use Rattle.std.proofs.lemmas.Bool.{false≢true}
use Rattle.repo_model.specs.Data.{Session, repository, session}
use Rattle.repo_model.specs.Settings.{Settings}
use Rattle.repo_model.specs.State.{State, open_of, is_open_at, most_staged}
use Rattle.repo_model.specs.Command.{Command, look, may_put, open_session, stage, land}
use Rattle.repo_model.specs.Reply.{Reply, sessions_full, session_full, no_memory, is_free, can_get}
use Rattle.repo_model.specs.Turn.{turn}
use Rattle.repo_model.specs.History.{Entry, Fits}
use Rattle.repo_laws.specs.Causes.{Cause}
use Rattle.repo_laws.specs.Replies.{is_refusal}
use Rattle.repo_laws.proofs.Answered.{turn-can_get}
use Rattle.repo_laws.proofs.EachCause.{each-cause, entry-cause, cause-entry}
use Rattle.repo_laws.proofs.Orderly.{found-has}
use Rattle.session_laws.specs.Limits.{KeepsLimits, is_full, IsAtLimit}

module _ (settings : Settings) (s : State) (now : ℕ) where
  -- a reply that a command can't get has no cause
  not-got : (c : Command) (r : Reply) → is_refusal r ≡ true → can_get c r ≡ false → Cause settings s now c r → ⊥
  not-got c r refused never cause =
      let is : (turn settings s now c).reply ≡ r = (each-cause settings s now c r refused).1 cause in
      false≢true (sym never ∙ ap (can_get c) (sym is) ∙ turn-can_get settings s now c)

  module _ (keeps : KeepsLimits s) where
    few-staged : (n : ℕ) (one : Session) → open_of n s ≡ Some one → length one.staged ≤ most_staged
    few-staged n one there = found-has (λ (x : Session). length x.staged ≤ most_staged) (is_open_at n) s.sessions one keeps.staged there

    open-exact : (c : Command) → Cause settings s now c sessions_full → IsAtLimit s c sessions_full
    open-exact (open_session repo) many = omega (arith, many, keeps.sessions)
    open-exact (may_put (repository repo) path) cause = absurd cause
    open-exact (may_put (session n) path) cause = absurd cause
    open-exact (look repo path tried) cause = absurd (not-got (look repo path tried) sessions_full refl refl cause)
    open-exact (land plan outcome) cause = absurd (not-got (land plan outcome) sessions_full refl refl cause)
    open-exact c cause = absurd cause

    staged-exact : (c : Command) → Cause settings s now c session_full → IsAtLimit s c session_full
    staged-exact (may_put (session n) path) (one, there, takes, (many, none)) = (one, there, takes, (omega (arith, many, few-staged n one there), none))
    staged-exact (stage at path n blob) (one, drawn, there, (many, none)) = (one, drawn, there, (omega (arith, many, few-staged at one there), none))
    staged-exact (may_put (repository repo) path) cause = absurd cause
    staged-exact (look repo path tried) cause = absurd (not-got (look repo path tried) session_full refl refl cause)
    staged-exact (land plan outcome) cause = absurd (not-got (land plan outcome) session_full refl refl cause)
    staged-exact c cause = absurd cause

    exact : (c : Command) (r : Reply) → is_full r ≡ true → Cause settings s now c r → IsAtLimit s c r
    exact c sessions_full full cause = open-exact c cause
    exact c session_full full cause = staged-exact c cause
    exact c r full cause = absurd (false≢true full)

  open-causes : (c : Command) → IsAtLimit s c sessions_full → Cause settings s now c sessions_full
  open-causes (open_session repo) just = omega (arith, just)
  open-causes (may_put (repository repo) path) at = absurd at
  open-causes (may_put (session n) path) at = absurd at
  open-causes c at = absurd at

  staged-causes : (c : Command) → IsAtLimit s c session_full → Cause settings s now c session_full
  staged-causes (may_put (session n) path) (one, there, takes, (just, none)) = (one, there, takes, (omega (arith, just), none))
  staged-causes (stage at path n blob) (one, drawn, there, (just, none)) = (one, drawn, there, (omega (arith, just), none))
  staged-causes (may_put (repository repo) path) at = absurd at
  staged-causes c at = absurd at

  causes : (c : Command) (r : Reply) → is_full r ≡ true → IsAtLimit s c r → Cause settings s now c r
  causes c sessions_full full at = open-causes c at
  causes c session_full full at = staged-causes c at
  causes c r full at = absurd (false≢true full)

full-refuses : (r : Reply) → is_full r ≡ true → is_refusal r ≡ true
full-refuses sessions_full full = refl
full-refuses session_full full = refl
full-refuses r full = absurd (false≢true full)

full-bound : (r : Reply) → is_full r ≡ true → is_free r ≡ false
full-bound sessions_full full = refl
full-bound session_full full = refl
full-bound r full = absurd (false≢true full)

pub turn-at-limit : (settings : Settings) (s : State) (now : ℕ) (c : Command) (r : Reply) → KeepsLimits s → is_full r ≡ true → ((turn settings s now c).reply ≡ r) ↔ IsAtLimit s c r
turn-at-limit settings s now c r keeps full =
    let (caused, refused) = each-cause settings s now c r (full-refuses r full) in
    ((λ is. exact settings s now keeps c r full (caused is)), (λ at. refused (causes settings s now c r full at)))

pub entry-at-limit : (settings : Settings) (old : State) (e : Entry) → Fits settings old e → KeepsLimits old → is_full e.reply ≡ true → IsAtLimit old e.command e.reply
entry-at-limit settings old e fits keeps full =
    exact settings old e.moment keeps e.command e.reply full (entry-cause settings old e fits (full-bound e.reply full) (full-refuses e.reply full))

pub limit-comes : (settings : Settings) (old : State) (e : Entry) (r : Reply) → Fits settings old e → is_full r ≡ true → IsAtLimit old e.command r → (e.reply ≡ r) ⊎ (e.reply ≡ no_memory)
limit-comes settings old e r fits full at = cause-entry settings old e r fits (full-refuses r full) (causes settings old e.moment e.command r full at)
