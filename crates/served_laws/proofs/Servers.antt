-- A server by its one history.
use Rattle.std.proofs.Common.{◌≡◌, ◌≤◌, ℕ, List, [], ◌∷◌, map, Option, refl, sym, subst, ap, ◌∙◌}
use Rattle.repo_model.specs.History.{Entry, Legal}
use Rattle.repo_model.specs.Settings.{Settings}
use Rattle.repo_model.specs.State.{State}
use Rattle.repo_core.specs.CoreTurn.{CoreTurn}
use Rattle.repo_core.specs.Whole.{Whole}
use Rattle.store_check.specs.Checking.{Recorded}
use Rattle.outside.specs.Moments.{Moments}
use Rattle.repo_run.specs.Begun.{Begins}
use Rattle.repo_run.specs.FirstConnection.{Makes}
use Rattle.repo_run.specs.Surroundings.{FirstOnly, View}
use Rattle.closed_laws.specs.Streams.{ShowsWhatWasNamed}
use Rattle.closed_laws.proofs.NamedStreams.{turn-shows}
use Rattle.turn_lock.specs.History.{end_of}
use Rattle.turn_lock.specs.History as locked
use Rattle.turn_lock.specs.Seats.{opening}
use Rattle.turn_seats.specs.Seated.{entry_of}
use Rattle.run_desks.specs.Seen.{RunResources, Looks}
use Rattle.seat_server.specs.Rules.{Rules}
use Rattle.desk_laws.proofs.HandedOver.{works-drawn, works-once, works-told}
use Rattle.crash_laws.specs.Handed.{AllHandTold, AnyHands, HandOnce}
use Rattle.run_serve.specs.Serving.{OtherBlobs, ServesBy, not_started, refused, started, worked}
use Rattle.served_laws.specs.Kept.{ServerKeepsBytes}
use Rattle.served_laws.specs.Runs.{CompletesTold, ServerShows, idle, served}
use Rattle.served_laws.specs.Shown.{DesksShow}
use Rattle.served_laws.specs.Crashed.{ServerOutlasts, calls_made}
use Rattle.served_laws.proofs.Kept.{entries-called, keeps-bytes}
use Rattle.served_laws.proofs.Runs.{begun-closed, begun-completes, begun-outlasts, begun-records, made, told-completed}
use Rattle.served_laws.proofs.Showing.{desks-show}
use Rattle.served_laws.proofs.Crashed.{GoesOn, calls-go-on, stays}

-- where only the first desk is another, and its port is as it was, all ports are
same-ports : {D P : Type 0} (port : D → P) (Related : D → D → Type 0) → ((old new : D) → Related old new → port new ≡ port old)
    → (olds news : List D) → FirstOnly Related olds news → map port news ≡ map port olds
same-ports port Related same [] news only = absurd only
same-ports port Related same (old ∷ olds) [] only = absurd only
same-ports {D} {P} port Related same (old ∷ olds) (new ∷ news) only =
    ap (λ (p : P). p ∷ map port news) (same old new only.0) ∙ ap (λ (ds : List D). port old ∷ map port ds) only.1

-- what holds of the first desk
first-at : {D : Type 0} (Related : D → D → Type 0) (new : D) (olds news : List D) → FirstOnly Related olds (new ∷ news) → (old : D) × Related old new
first-at Related new [] news only = absurd only
first-at Related new (old ∷ olds) news only = (old, only.0)

-- what holds of the first desks where the others are the same
first-of : {D : Type 0} (Related : D → D → Type 0) (olds news : List D) → FirstOnly Related olds news → (old : D) × (new : D) × Related old new
first-of Related [] news only = absurd only
first-of Related (old ∷ olds) [] only = absurd only
first-of Related (old ∷ olds) (new ∷ news) only = (old, new, only.0)

module _ {L P D C R : Type 0} (looks : Looks L P D) (rules : Rules Whole C R)
    (settings_of : (w : Whole) → rules.sight.settings w ≡ w.settings) (state_of : (w : Whole) → rules.sight.state w ≡ w.state)
    (is_turn : (before after : Whole) (call : C) (reply : R) → rules.steps before call reply after
    → CoreTurn before.settings before (entry_of rules.sight (record { by = 0; call = call; reply = reply; after = after })) after)
    (settings : Settings) where
  pub server-shows : (old new : View (RunResources (List D))) (status : ℕ) → ServesBy looks rules settings old new status → ServerShows looks settings old new
  server-shows old new status (not_started fault only same_cleaner_resources same_clock told) =
      let desks = old.place.desks in
      let back = new.place.desks in
      let first = first-of _ desks back only in
      idle (same-ports looks.port _ (λ one other is. is.0) desks back only) (told-completed (looks.resources first.0).blobs.shelf old.records.tables new.records.tables first.2.2.tables)
  server-shows old new status (started core begun only (refused is holds same_clock told status_is)) =
      let desks = old.place.desks in
      let first = first-of _ desks begun only in
      idle (ap (λ (f : RunResources (List D)). map looks.port f.desks) is ∙ same-ports looks.port _ (λ one other so. so.0) desks begun only) (subst (CompletesTold old.records.tables) (sym holds.0) (begun-completes settings old.records _ _ old.clock core first.2.2))
  server-shows old new status (started core begun only (worked turns seat left calls failed opens works holds same_clock told)) =
      let first = first-of _ old.place.desks begun only in
      let begins = first.2.2 in
      let x : Whole = opening turns in
      let history : List Entry = map (entry_of rules.sight) works.ended.log in
      let settings_are : rules.sight.settings x ≡ settings = settings_of x ∙ ap (λ (w : Whole). w.settings) opens.0 ∙ begins.settings_are in
      let state_is : rules.sight.state x ≡ core.state = state_of x ∙ ap (λ (w : Whole). w.state) opens.0 in
      let legal : Legal settings core.state history =
      subst (λ (s : State). Legal settings s history) state_is (subst (λ (s : Settings). Legal s (rules.sight.state x) history) settings_are works.history.legal) in
      let closed_so = begun-closed settings old.records _ _ old.clock core begins history legal in
      let shown = desks-show looks settings (ShowsWhatWasNamed settings core.state) history
      (λ before more later e old turn is parts turned.
      turn-shows settings looks.tells closed_so.apart core.state closed_so.sound before more later e old turn is (subst (Legal settings core.state) parts legal) turned)
      rules closed_so.apart core.state closed_so.sound turns seat works.ended.log refl begun works.outs works.done works.ended.rest in
      let made_so = subst (λ (w : Whole). Makes core history w) (sym works.ended.end) (subst (λ (w : Whole). Makes w history (end_of x works.ended.log)) opens.0 (made rules.sight rules.steps is_turn x works.ended.log works.ended.legal)) in
      served core begun history only closed_so (subst (λ (bs : List D). DesksShow looks (ShowsWhatWasNamed settings core.state) settings history begun bs) (sym works.back_are) shown)
      (begun-records settings old.records _ _ old.clock core begins new.records left history made_so holds)

  -- what its repository made outlasts crashes
  pub server-outlasts : (old new : View (RunResources (List D))) (status : ℕ) (serves : ServesBy looks rules settings old new status) → ServerOutlasts looks rules settings old new status serves
  server-outlasts old new status (not_started fault only same_cleaner_resources same_clock told) = tt
  server-outlasts old new status (started core begun only (refused is holds same_clock told status_is)) =
      let begins = (first-of _ old.place.desks begun only).2.2 in
      begun-outlasts settings old.records _ _ old.clock core begins new.records core [] (λ t told_so. stays settings core t told_so) holds
  server-outlasts old new status (started core begun only (worked turns seat left calls failed opens works holds same_clock told)) =
      let begins = (first-of _ old.place.desks begun only).2.2 in
      let log = works.ended.log in
      let legal : locked.Legal rules.steps core log = subst (λ (w : Whole). locked.Legal rules.steps w log) opens.0 works.ended.legal in
      let last : left ≡ end_of core log = works.ended.end ∙ ap (λ (w : Whole). end_of w log) opens.0 in
      begun-outlasts settings old.records _ _ old.clock core begins new.records left (calls_made rules.sight log)
      (λ t told_so.
      subst (λ (w : Whole). GoesOn settings core t (calls_made rules.sight log) w) (sym last)
      (calls-go-on settings rules.sight rules.steps is_turn log core t legal begins.settings_are told_so))
      holds

  -- the repository was opened over the first desk's store
  abbrev IsOver : Recorded → Option Moments → Whole → D → D → Type 0
  IsOver records clock core = OtherBlobs looks (λ blobs blobs'. Begins settings records blobs blobs' clock core)

  opened-over : (records : Recorded) (clock : Option Moments) (core : Whole) (desk : D) (others olds begun : List D) → begun ≡ desk ∷ others → FirstOnly (IsOver records clock core) olds begun
      → (first : D) × Begins settings records (looks.resources first).blobs (looks.resources desk).blobs clock core
  opened-over records clock core desk others olds begun is only =
      let (first, related) = first-at (IsOver records clock core) desk olds others (subst (λ (ds : List D). FirstOnly (IsOver records clock core) olds ds) is only) in (first, related.2)

  -- and so do the bytes that its desks stored, where their blobs tell them
  pub server-keeps-bytes : (old new : View (RunResources (List D))) (status : ℕ) (serves : ServesBy looks rules settings old new status) → looks.tells
      → ServerKeepsBytes looks rules settings old new status serves
  server-keeps-bytes old new status (not_started fault only same_cleaner_resources same_clock told) tell = tt
  server-keeps-bytes old new status (started core begun only (refused is holds same_clock told status_is)) tell = λ desk others desks_are.
      let (first, begins) = opened-over old.records old.clock core desk others old.place.desks begun desks_are only in
      keeps-bytes settings old.records (looks.resources first).blobs (looks.resources desk).blobs old.clock core begins new.records []
      (server-outlasts old new status (started core begun only (refused is holds same_clock told status_is))) tt tt (λ n any. absurd any)
  server-keeps-bytes old new status (started core begun only (worked turns seat left calls failed opens works holds same_clock told)) tell = λ desk others desks_are.
      let (first, begins) = opened-over old.records old.clock core desk others old.place.desks begun desks_are only in
      let log = works.ended.log in
      let called = entries-called rules.sight log in
      let state_is : rules.sight.state (opening turns) ≡ core.state = state_of (opening turns) ∙ ap (λ (w : Whole). w.state) opens.0 in
      let run_resources = record old.place { desks = begun } in
      keeps-bytes settings old.records (looks.resources first).blobs (looks.resources desk).blobs old.clock core begins new.records (calls_made rules.sight log)
      (server-outlasts old new status (started core begun only (worked turns seat left calls failed opens works holds same_clock told)))
      (subst AllHandTold (sym called) (works-told looks settings rules turns seat run_resources new.place left calls failed works opens.2 opens.3 tell))
      (subst HandOnce (sym called) (works-once looks settings rules turns seat run_resources new.place left calls failed works opens.2 opens.3))
      (λ n any.
      subst (λ (s : State). s.yard.next_draft ≤ n) state_is
      (works-drawn looks settings rules turns seat run_resources new.place left calls failed works opens.2 opens.3 n (subst (AnyHands n) called any)))
