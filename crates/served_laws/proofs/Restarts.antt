-- Two servers, the later one over the tables that the earlier one left.
use Rattle.std.proofs.Common.{◌≡◌, List, [], ◌∷◌, Some, subst, ◌∙◌}
use Rattle.repo_model.specs.History.{end}
use Rattle.repo_model.specs.Settings.{Settings}
use Rattle.repo_model.specs.Tables.{Tables}
use Rattle.repo_laws.specs.Holds.{told, with_items}
use Rattle.repo_laws.specs.InRange.{Completes, Follow, Run}
use Rattle.repo_laws.proofs.Completing.{completed-order}
use Rattle.repo_run.specs.Surroundings.{View}
use Rattle.run_desks.specs.Seen.{RunResources, Looks}
use Rattle.served_laws.specs.Restarted.{RestartShows, ShowsWhatWasNamedIn, both, idle_earlier, idle_later}
use Rattle.served_laws.specs.Runs.{ServerShows, idle, served}
use Rattle.served_laws.proofs.Across.{shows-later}
use Rattle.served_laws.proofs.Showing.{desks-again}

module _ {L P D : Type 0} (looks : Looks L P D) (settings : Settings) (tables : Tables) (old new later_old later_new : View (RunResources (List D)))
    (told_so : old.records.tables ≡ Some tables) (passed : later_old.records.tables ≡ new.records.tables) where
  pub restart-shows : ServerShows looks settings old new → ServerShows looks settings later_old later_new → RestartShows looks settings old new later_old later_new
  restart-shows (idle same still) later = idle_earlier same
  restart-shows (served core begun history only closed shown records_so) (idle same still) = idle_later same
  restart-shows (served core begun history only closed shown records_so) (served later_core later_begun later_history later_only later_closed later_shown later_so) =
      both core later_core begun later_begun history later_history only later_only closed later_closed shown later_shown
      (λ begins_from.
      let (left, left_is, was) = records_so tables told_so in
      let (_, _, is) = later_so left (passed ∙ left_is) in
      let earlier : Run = record { tables = was.whole; start = core.state; entries = history } in
      let later : Run = record { tables = is.whole; start = later_core.state; entries = later_history } in
      let completes : Completes (with_items was.whole (told settings core.state history)) is.whole = subst (λ (t : Tables). Completes t is.whole) was.left is.completes in
      let follow : Follow settings (with_items was.whole (told settings core.state history)) (end settings core.state history).last (later ∷ []) =
      (completes, is.stands, later_closed.sound, later_closed.legal, begins_from, tt) in
      desks-again looks settings (ShowsWhatWasNamedIn settings core.state history later_core.state) later_history
      (λ before more rest e from turn is_first parts turned.
      shows-later settings closed.apart was.whole earlier [] later closed.sound (completed-order tables was.whole was.completes was.order) was.stands.holds closed.legal follow looks.tells before more rest e from
      turn is_first parts turned)
      _ later_begun later_new.place.desks later_shown)
