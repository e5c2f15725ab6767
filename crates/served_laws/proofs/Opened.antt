-- A repository that was opened is fit for all that its seats' histories keep.
use Rattle.std.proofs.Common.{◌≡◌, List, Option, sym, subst, ◌∙◌}
use Rattle.outside.specs.Moments.{Moments}
use Rattle.repo_model.specs.Settings.{Settings}
use Rattle.repo_laws.specs.Sound.{AreNamedApart, IsSound}
use Rattle.repo_core.specs.Whole.{Whole}
use Rattle.repo_course.specs.Cleaning.{Store}
use Rattle.store_check.specs.Checking.{Recorded}
use Rattle.repo_run.specs.Begun.{Begins}
use Rattle.turn_lock.specs.declared.view.Entry.{Entry as Call}
use Rattle.turn_lock.specs.History.{Legal}
use Rattle.turn_seats.specs.Histories.{is_history}
use Rattle.turn_seats.specs.Seated.{IsTurnOf, Sight}
use Rattle.seat_laws.specs.Closing.{IsFit, SeesAll}
use Rattle.seat_laws.proofs.Closing.{sees-all}
use Rattle.settings_laws.proofs.Apart.{named-apart}
use Rattle.served_laws.proofs.Runs.{begun-sound}

module _ {C R : Type 0} (sight : Sight Whole C R) (steps : Whole → C → R → Whole → Type 0)
    (settings_of : (w : Whole) → sight.settings w ≡ w.settings) (state_of : (w : Whole) → sight.state w ≡ w.state)
    (is_turn : (before after : Whole) (call : C) (reply : R) → steps before call reply after → IsTurnOf sight before call reply after)
    (settings : Settings) (records : Recorded) (old new : Store) (clock : Option Moments) where
  fit : (x : Whole) → Begins settings records old new clock x → IsFit sight x
  fit x begins =
      let same : settings ≡ sight.settings x = sym (settings_of x ∙ begins.settings_are) in
      record {
        apart = subst (λ (s : Settings). AreNamedApart s.hosted) same (named-apart settings begins.form);
        sound =
            subst (λ (s : Settings). IsSound s (sight.state x)) same
            (subst (IsSound settings) (sym (state_of x)) (begun-sound settings records old new clock x begins));
      }

  pub begun-sees : (x : Whole) (calls : List (Call C R Whole)) → Begins settings records old new clock x → Legal steps x calls → SeesAll sight x calls
  begun-sees x calls begins legal = sees-all sight x calls (fit x begins) (is_history sight steps is_turn x calls legal)
