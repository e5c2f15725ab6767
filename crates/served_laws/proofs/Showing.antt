-- What each turn shows wherever its first entry stands, carried to connections and desks.
use Rattle.std.proofs.Common.{◌≡◌, inl, inr, ℕ, zero, suc, Bool, List, [], ◌∷◌, ◌++◌, map, All, sym, subst, ap, ◌∙◌}
use Rattle.std.specs.List.{AllZip}
use Rattle.std.proofs.lemmas.List.Elements.{All-head, All-tail}
use Rattle.repo_model.specs.History.{Entry}
use Rattle.repo_model.specs.Settings.{Settings}
use Rattle.repo_model.specs.State.{State}
use Rattle.repo_laws.specs.Sound.{AreNamedApart, IsSound}
use Rattle.repo_course.specs.Asking.{LiesIn}
use Rattle.repo_course.specs.Serving.{Outside, ServesStream, RequestTurn}
use Rattle.repo_course.specs.declared.outcomes.End.{End}
use Rattle.closed_laws.specs.Streams.{AreTurns, Seen}
use Rattle.closed_laws.proofs.NamedStreams.{stream-shows}
use Rattle.turn_lock.specs.declared.view.Entry.{Entry as Call}
use Rattle.turn_lock.specs.declared.turns.Turns.{Turns}
use Rattle.turn_lock.specs.declared.seat.SeatToken.{SeatToken as Seat}
use Rattle.turn_lock.specs.History.{entries_by}
use Rattle.turn_lock.specs.Seats.{number}
use Rattle.turn_seats.specs.Ending.{HoldsSeat}
use Rattle.turn_seats.specs.Seated.{entry_of}
use Rattle.run_desks.specs.Seen.{DeskResources, Looks}
use Rattle.seat_server.specs.Rules.{Rules}
use Rattle.desk_work.specs.Visits.{Attends, Visit, entries_of}
use Rattle.desk_work.specs.Working.{DeskDone}
use Rattle.served_laws.specs.Shown.{AllShowIn, ConnectionShows, DeskShows, DesksShow, Showing, VisitsShow}
use Rattle.served_laws.proofs.Woven.{lie-by}

module _ (settings : Settings) (tells : Type 0) (Shows : Showing) (history : List Entry)
    (each : (before more later : List Entry) (e : Entry) (old : Outside) (turn : Seen) → turn.entries ≡ e ∷ more → history ≡ before ++ e ∷ later
    → RequestTurn settings tells turn.last turn.entries old turn.new turn.stop → Shows before e old turn) where
  all-show : (n : ℕ) (turns : List Seen) (entries : List Entry) (old new : Outside) (ending : End) → AreTurns settings tells n turns entries old new ending
      → AllShowIn Shows history old turns
  unfolding AreTurns
  all-show n [] entries old new ending are = tt
  all-show zero (turn ∷ turns) entries old new ending are = absurd are
  all-show (suc left) (turn ∷ turns) entries old new ending (last, turned, inl (none, same, new_is, crashes)) = (
    (λ before more later e is parts. each before more later e old turn is parts turned),
    subst (λ (ts : List Seen). AllShowIn Shows history turn.new ts) (sym none) tt,
  )
  all-show (suc left) (turn ∷ turns) entries old new ending (last, turned, inr (rest, parts, goes_on, are)) = (
    (λ before more later e is parts. each before more later e old turn is parts turned),
    all-show left turns rest turn.new new ending are,
  )

  -- a connection whose turns are known
  pub turned-shows : {Before : Showing} (entries : List Entry) (old new : Outside) (ending : End) → ConnectionShows Before settings tells history entries old new ending
      → ConnectionShows Shows settings tells history entries old new ending
  turned-shows entries old new ending was = record { turns = was.turns; are = was.are; show = all-show 1000 was.turns entries old new ending was.are }

  module _ (apart : AreNamedApart settings.hosted) (start : State) (sound : IsSound settings start) where
    -- a stream that was served
    pub served-shows : (entries : List Entry) (old new : Outside) (ending : End) → ServesStream settings tells 1000 entries old new ending
        → ConnectionShows Shows settings tells history entries old new ending
    served-shows entries old new ending serves =
        let (turns, are, _) = stream-shows settings tells apart start sound 1000 entries old new ending serves in
        record { turns = turns; are = are; show = all-show 1000 turns entries old new ending are }

module _ {L P D : Type 0} (looks : Looks L P D) (settings : Settings) (Shows : Showing) (history : List Entry)
    (each : (before more later : List Entry) (e : Entry) (old : Outside) (turn : Seen) → turn.entries ≡ e ∷ more → history ≡ before ++ e ∷ later
    → RequestTurn settings looks.tells turn.last turn.entries old turn.new turn.stop → Shows before e old turn) where
  visits-again : (Before : Showing) (before : DeskResources) (visits : List (Visit L)) → VisitsShow looks Before settings history before visits
      → VisitsShow looks Shows settings history before visits
  visits-again Before before [] show = tt
  visits-again Before before (v ∷ vs) show = (turned-shows settings looks.tells Shows history each {Before = Before} v.entries _ _ v.ending show.0, visits-again Before v.left vs show.1)

  -- desks that showed something else show this too
  pub desks-again : (Before : Showing) (desks back : List D) → DesksShow looks Before settings history desks back
      → DesksShow looks Shows settings history desks back
  desks-again Before [] [] show = tt
  desks-again Before [] (b ∷ bs) show = absurd show
  desks-again Before (d ∷ ds) [] show = absurd show
  desks-again Before (d ∷ ds) (b ∷ bs) show = (
    record {
      visits = show.0.visits;
      attends = show.0.attends;
      came = show.0.came;
      went = show.0.went;
      lie = show.0.lie;
      show = visits-again Before (looks.resources d) show.0.visits show.0.show;
    },
    desks-again Before ds bs show.1,
  )

  module _ {C R T : Type 0} (rules : Rules T C R) (apart : AreNamedApart settings.hosted) (start : State) (sound : IsSound settings start) (turns : Turns T C R) (first : Seat C R T)
      (log : List (Call C R T)) (history_is : history ≡ map (entry_of rules.sight) log) where
    visits-show : (before after : DeskResources) (visits : List (Visit L)) → Attends looks settings before visits after
        → VisitsShow looks Shows settings history before visits
    visits-show before after [] attends = tt
    visits-show before after (v ∷ vs) attends = (served-shows settings looks.tells Shows history each apart start sound v.entries _ _ v.ending attends.0, visits-show v.left after vs attends.1)

    desk-shows : (desk : D) (out : Seat C R T × (D × Bool)) → DeskDone looks rules settings turns first desk out → HoldsSeat log out.0
        → DeskShows looks Shows settings history desk out.1.0
    desk-shows desk out (own, begun, (did, over)) holds =
        let calls : did.gained.calls ≡ entries_by (number out.0) log =
        ap (λ (cs : List (Call C R T)). cs ++ did.gained.calls) (sym begun.1) ∙ sym did.gained.mine_are ∙ holds.1.0 in
        let entries : entries_of did.visits ≡ map (entry_of rules.sight) (entries_by (number out.0) log) = did.gained.entries_are ∙ ap (map (entry_of rules.sight)) calls in
        record {
          visits = did.visits;
          attends = did.attends;
          came = did.came;
          went = did.went;
          lie = subst (λ (h : List Entry). LiesIn (entries_of did.visits) h) (sym history_is)
              (subst (λ (es : List Entry). LiesIn es (map (entry_of rules.sight) log)) (sym entries) (lie-by (entry_of rules.sight) (number out.0) log));
          show = visits-show (looks.resources desk) (looks.resources out.1.0) did.visits did.attends;
        }

    pub desks-show : (desks : List D) (outs : List (Seat C R T × (D × Bool))) → AllZip (DeskDone looks rules settings turns first) desks outs
        → All (HoldsSeat log) (map (λ (out : Seat C R T × (D × Bool)). out.0) outs)
        → DesksShow looks Shows settings history desks (map (λ (out : Seat C R T × (D × Bool)). out.1.0) outs)
    desks-show [] [] done held = tt
    desks-show [] (o ∷ os) done held = absurd done
    desks-show (d ∷ ds) [] done held = absurd done
    desks-show (d ∷ ds) (o ∷ os) done held = (
      desk-shows d o done.0 (All-head (HoldsSeat log) o.0 (map (λ (out : Seat C R T × (D × Bool)). out.0) os) held),
      desks-show ds os done.1 (All-tail (HoldsSeat log) o.0 (map (λ (out : Seat C R T × (D × Bool)). out.0) os) held),
    )
