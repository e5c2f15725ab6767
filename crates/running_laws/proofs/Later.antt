-- What a crash leaves is what a front recorded, over which later runs show what its documents named.
use Rattle.std.proofs.Common.{◌≡◌, inl, inr, List, [], ◌∷◌, ◌++◌, Option, Some, None, sym, subst, ap, ◌∙◌}
use Rattle.std.specs.Option.{option_map}
use Rattle.outside.specs.Moments.{Moments}
use Rattle.repo_model.specs.declared.item.Item.{Item}
use Rattle.repo_model.specs.History.{Entry, Legal, end}
use Rattle.repo_model.specs.Settings.{Settings}
use Rattle.repo_model.specs.State.{State}
use Rattle.repo_model.specs.Tables.{Tables}
use Rattle.repo_laws.specs.Holds.{Holds, InOrder, told, with_items}
use Rattle.repo_laws.specs.InRange.{Follow}
use Rattle.repo_laws.specs.Sound.{AreNamedApart, IsSound}
use Rattle.row_tables.specs.Crashes.{IsOneOf, Unsettled, left_by}
use Rattle.crash_laws.specs.Crashes.{IsLeft}
use Rattle.crash_laws.proofs.RunLaws.{finds-more}
use Rattle.repo_core.specs.CoreTurn.{CoreTurn}
use Rattle.repo_core.specs.Whole.{Whole}
use Rattle.repo_course.specs.Cleaning.{Store}
use Rattle.store_check.specs.Checking.{Recorded}
use Rattle.repo_run.specs.Begun.{Begins}
use Rattle.turn_lock.specs.declared.view.Entry.{Entry as Call}
use Rattle.turn_lock.specs.History as calls
use Rattle.turn_seats.specs.Seated.{Sight, entry_of}
use Rattle.served_laws.specs.Crashed.{Made, calls_made, entries_made, left_behind, unsettled_after}
use Rattle.served_laws.proofs.Crashed.{calls-go-on}
use Rattle.served_laws.proofs.Runs.{apart, begun-sound, begun-stands, whole-order}
use Rattle.running_laws.specs.Named.{FrontShows, LaterShow, NamesOutlast}
use Rattle.running_laws.proofs.Seen.{calls-outlast}
use Rattle.served_laws.proofs.Across.{shows-later}
use Rattle.crash_laws.proofs.Fronts.{is-front}

module _ (tells : Type 0) (settings : Settings) (start : State) (t : Tables) (named : AreNamedApart settings.hosted) (sound : IsSound settings start) (order : InOrder t) (holds : Holds t start) where
  pub all-show : (history : List Entry) (u : Tables) → Legal settings start history → u ≡ with_items t (told settings start history) → LaterShow tells settings start history u
  all-show history u legal is between later before more rest e old turn follow first_is parts turned =
      shows-later settings named t (record { tables = t; start = start; entries = history }) between later sound order holds legal
      (subst (λ (x : Tables). Follow settings x (end settings start history).last (between ++ later ∷ [])) is follow) tells before more rest e old turn first_is parts turned

  pub front-shows : (entries : List Entry) (u : Tables) → Legal settings start entries → IsLeft settings start t entries u → FrontShows tells settings start entries u
  front-shows entries u legal left =
      let it = is-front settings start t u entries legal left in
      record { history = it.history; front_is = it.is; legal = it.legal; shows = all-show it.history u it.legal it.left }

-- the only one of some tables
only : (t u : Tables) → IsOneOf u (t ∷ []) → u ≡ t
only t u (inl is) = sym is
only t u (inr none) = absurd none

module _ {C R : Type 0} (sight : Sight Whole C R) (steps : Whole → C → R → Whole → Type 0)
    (is_turn : (before after : Whole) (call : C) (reply : R) → steps before call reply after
    → CoreTurn before.settings before (entry_of sight (record { by = 0; call = call; reply = reply; after = after })) after)
    (settings : Settings) (records : Recorded) (old new : Store) (clock : Option Moments) where
  pub calls-name : (tells : Type 0) (x : Whole) (log : List (Call C R Whole)) → Begins settings records old new clock x → calls.Legal steps x log
      → NamesOutlast tells sight settings records x log
  calls-name tells x log begins legal before told_so quiet =
      let made : List Made = calls_made sight log in
      let items : List Item = told settings x.state (entries_made made) in
      let run = calls-outlast sight steps is_turn settings records old new clock x log begins legal before told_so in
      let told_core : x.tables ≡ Some begins.tables = begins.tables_are ∙ ap (option_map (λ (t : Tables). begins.tables)) told_so in
      let on = calls-go-on settings sight steps is_turn log x begins.tables legal begins.settings_are told_core in
      let both : Some run.whole ≡ Some begins.tables = sym run.told_core ∙ told_core in
      let whole_is : run.whole ≡ begins.tables = cc in
      let pending_is : (unsettled_after x.unsettled made).pending ≡ None = ap (λ (w : Unsettled). w.pending) (sym run.unsettled_now) ∙ quiet in
      finds-more (λ u. IsOneOf u (left_behind settings x.state run.whole x.unsettled made)) (LaterShow tells settings x.state (entries_made made)) _ _
      (λ u is.
      all-show tells settings x.state begins.tables (apart settings records old new clock x begins) (begun-sound settings records old new clock x begins)
      (whole-order settings records old new clock x begins) (begun-stands settings records old new clock x begins).holds (entries_made made) u on.legal
      (only (with_items run.whole items) u (subst (λ (p : Option (List Item)). IsOneOf u (left_by (with_items run.whole items) p)) pending_is is)
      ∙ ap (λ (t : Tables). with_items t items) whole_is))
      run.found_now
