-- What a desk answered so far outlasts crashes.
use Rattle.std.proofs.Common.{◌≡◌, List, [], ◌∷◌, ◌++◌, Option, Some, sym, ◌∙◌, map, subst}
use Rattle.outside.specs.Moments.{Moments}
use Rattle.repo_model.specs.Command.{Command}
use Rattle.repo_model.specs.Reply.{Reply}
use Rattle.repo_model.specs.History.{Entry, Legal}
use Rattle.repo_model.specs.Settings.{Settings}
use Rattle.repo_model.specs.State.{State}
use Rattle.repo_model.specs.Tables.{Tables}
use Rattle.repo_laws.specs.Sound.{AreNamedApart, IsSound}
use Rattle.row_tables.specs.Crashes.{Unsettled}
use Rattle.repo_core.specs.CoreTurn.{CoreTurn}
use Rattle.repo_core.specs.Whole.{Whole}
use Rattle.repo_course.specs.Cleaning.{Store}
use Rattle.repo_course.specs.Serving.{Outside}
use Rattle.closed_laws.specs.Streams.{Seen}
use Rattle.answer_laws.specs.Marked.{Mark, entries_of}
use Rattle.answer_laws.specs.Why.{AllAnsweredByCause}
use Rattle.store_check.specs.Checking.{Recorded}
use Rattle.repo_run.specs.Begun.{Begins}
use Rattle.run_desks.specs.Seen.{DeskResources, Looks}
use Rattle.turn_lock.specs.declared.view.Entry.{Entry as Call}
use Rattle.turn_lock.specs.declared.turns.Turns.{Turns}
use Rattle.turn_lock.specs.declared.seat.SeatToken.{SeatToken as Seat}
use Rattle.turn_lock.specs.History as calls
use Rattle.turn_lock.specs.Seats.{mine, opening}
use Rattle.turn_seats.specs.Ending.{HoldsSeat}
use Rattle.turn_seats.specs.Seated.{Sight, entry_of}
use Rattle.desk_work.specs.Visits.{Attended, Visit, entries_of as entries_of_visits}
use Rattle.desk_laws.specs.Answered.{VisitsAnswered, marked_by}
use Rattle.served_laws.specs.Crashed.{Made, OutlastsCrashes, calls_made, entries_made}
use Rattle.running_laws.specs.Kept.{DeskKeeps, TurnsKeep, VisitsKeep}
use Rattle.running_laws.proofs.Commits.{commit-outlasts}
use Rattle.desk_laws.proofs.Desks.{marked-entries, so-far-answered}
use Rattle.served_laws.proofs.Kept.{entries-called}
use Rattle.running_laws.proofs.Puts.{again-outlasts, put-outlasts}
use Rattle.served_laws.proofs.Runs.{begun-closed}
use Rattle.running_laws.proofs.Seen.{calls-outlast}
use Rattle.served_laws.proofs.Crashed.{calls-go-on}

module _ (settings : Settings) (start : State) (t : Tables) (old : Unsettled) (made : List Made) (tells : Type 0) (marks : List Mark) (apart : AreNamedApart settings.hosted)
    (sound : IsSound settings start) (legal : Legal settings start (entries_made made)) (outlast : OutlastsCrashes settings start t old made) (same : entries_of marks ≡ entries_made made) where
  turns-keep : (past rest : List Entry) (from : Outside) (turns : List Seen) → AllAnsweredByCause settings tells start marks past rest from turns → TurnsKeep settings start t old made tells from turns
  turns-keep past rest from [] all = tt
  turns-keep past rest from (turn ∷ turns) all = (
    record {
      puts = λ input came head request repo path count turned told front_is judged asks_it answered.
          put-outlasts settings start t old made marks tells turn.last past turn.entries _ from turn.new turn.stop input came head request repo path count turned outlast same all.1 told front_is judged
          asks_it answered;
      again = λ input came head request repo path count said turned told front_is judged asks_it is_again answered.
          again-outlasts settings start t old made marks tells turn.last past turn.entries _ from turn.new turn.stop input came head request repo path count turned outlast same all.1 told front_is judged
          asks_it apart sound legal said is_again answered;
      commits = λ input came head request n k turned told front_is judged asks_it answered.
          commit-outlasts settings start t old made marks tells turn.last past turn.entries _ from turn.new turn.stop input came head request n k turned apart sound legal outlast same all.1 told front_is
          judged asks_it answered;
    },
    turns-keep (past ++ turn.entries) rest turn.new turns all.2,
  )

module _ (settings : Settings) (start : State) (t : Tables) (old : Unsettled) (made : List Made) (marks : List Mark) (apart : AreNamedApart settings.hosted)
    (sound : IsSound settings start) (legal : Legal settings start (entries_made made)) (outlast : OutlastsCrashes settings start t old made) (same : entries_of marks ≡ entries_made made) where
  visits-keep : {L P D : Type 0} (looks : Looks L P D) (past : List Entry) (before : DeskResources) (visits : List (Visit L)) (answered : VisitsAnswered settings start marks looks past before visits)
      → VisitsKeep settings start t old made looks.tells looks marks past before visits answered
  visits-keep looks past before [] answered = tt
  visits-keep looks past before (v ∷ vs) answered = (
    turns-keep settings start t old made looks.tells marks apart sound legal outlast same past (entries_of_visits vs) _ answered.0.turns answered.0.answered,
    visits-keep looks (past ++ v.entries) v.left vs answered.1,
  )

module _ {L P D C R : Type 0} (looks : Looks L P D) (asked : C → Command) (answers : R → Reply) (steps : Whole → C → R → Whole → Type 0) where
  abbrev sight : Sight Whole C R
  sight = record { asked = asked; answered = answers; settings = λ w. w.settings; state = λ w. w.state }

  module _ (is_turn : (before after : Whole) (call : C) (reply : R) → steps before call reply after
      → CoreTurn before.settings before (entry_of sight (record { by = 0; call = call; reply = reply; after = after })) after) where
    pub desk-keeps : (settings : Settings) (records : Recorded) (from to : Store) (clock : Option Moments) (turns : Turns Whole C R) (own new : Seat C R Whole) (desk back : D) (log : List (Call C R Whole))
        (before : Tables) → Begins settings records from to clock (opening turns) → records.tables ≡ Some before → calls.Legal steps (opening turns) log → HoldsSeat log new → mine own ≡ []
        → Attended looks (record { sight = sight; steps = steps }) settings turns own new desk back → DeskKeeps looks settings sight (opening turns) before log desk back
    desk-keeps settings records from to clock turns own new desk back log before begins told_so legal holds none did =
        let x : Whole = opening turns in
        let run = calls-outlast sight steps is_turn settings records from to clock x log begins legal before told_so in
        let entries_legal : Legal settings x.state (entries_made (calls_made sight log)) = (calls-go-on settings sight steps is_turn log x run.whole legal begins.settings_are run.told_core).legal in
        let as_entries : Legal settings x.state (map (entry_of sight) log) = subst (Legal settings x.state) (entries-called sight log) entries_legal in
        let answered = so-far-answered looks settings (record { sight = sight; steps = steps }) turns x.state log as_entries own new desk back none did holds in
        let closed = begun-closed settings records from to clock x begins (map (entry_of sight) log) as_entries in
        record {
          answered = answered;
          outlasts = run;
          keeps = visits-keep settings x.state run.whole x.unsettled (calls_made sight log) (marked_by sight answered.number log) closed.apart closed.sound entries_legal run.outlasts
              (marked-entries sight answered.number log ∙ sym (entries-called sight log)) looks [] (looks.resources desk) answered.visits answered.answered;
        }
