-- How the connections of desks are answered, and what their seats have seen, by the one history of all.
use Rattle.std.specs.Prelude.{◌≡◌, ℕ, ◌==◌, List, [], ◌∷◌, ◌++◌, map}
use Rattle.outside.specs.Told.{behind, in_front}
use Rattle.repo_model.specs.History.{Entry}
use Rattle.repo_model.specs.Settings.{Settings}
use Rattle.repo_model.specs.State.{State}
use Rattle.repo_course.specs.Serving.{Outside}
use Rattle.repo_course.specs.declared.outcomes.End.{End}
use Rattle.closed_laws.specs.Streams.{AreTurns, Seen}
use Rattle.answer_laws.specs.Marked.{Mark, own_of}
use Rattle.answer_laws.specs.Why.{AllAnsweredByCause}
use Rattle.run_desks.specs.Seen.{DeskResources, Looks, around}
use Rattle.turn_lock.specs.declared.view.Entry.{Entry as Call}
use Rattle.turn_seats.specs.Seated.{Sight, entry_of}
use Rattle.desk_work.specs.Visits.{Attends, Visit, entries_of}

-- the calls of a history as entries, in which those of one caller are marked
abbrev pub marked_by : {T C R : Type 0} → Sight T C R → ℕ → List (Call C R T) → List Mark
marked_by {T} {C} {R} sight number log = map (λ (c : Call C R T). record { own = c.by == number; entry = entry_of sight c }) log

module _ (settings : Settings) (start : State) (history : List Mark) where
  -- a connection, between the caller's entries before it and after it, was served by these turns, of at most 1,000 requests, and each
  -- of them ends by its cause
  pub record ConnectionAnswered (tells : Type 0) (past entries rest : List Entry) (old new : Outside) (ending : End) : Type 0 where
    pub turns : List Seen
    pub are : AreTurns settings tells 1000 turns entries old new ending
    pub answered : AllAnsweredByCause settings tells start history past rest old turns

  -- so was each of these connections in turn
  abbrev pub VisitsAnswered : {L P D : Type 0} → Looks L P D → List Entry → DeskResources → List (Visit L) → Type 0
  VisitsAnswered looks past before [] = Unit {0}
  VisitsAnswered looks past before (v ∷ vs) =
      ConnectionAnswered looks.tells past v.entries (entries_of vs) (around looks [] v.came before) (around looks v.held v.went v.left) v.ending
      × VisitsAnswered looks (past ++ v.entries) v.left vs

module _ {L P D T C R : Type 0} (looks : Looks L P D) (settings : Settings) (sight : Sight T C R) (start : State) (log : List (Call C R T)) where
  -- A desk was handed these connections, served each so and gave each back. In the history of all calls those by its number are just
  -- the connections' entries.
  pub record DeskAnswered (desk back : D) : Type 0 where
    pub number : ℕ
    pub visits : List (Visit L)
    pub attends : Attends looks settings (looks.resources desk) visits (looks.resources back)
    pub came : looks.left (looks.port desk) ≡ in_front (map (λ (v : Visit L). v.came) visits) (looks.left (looks.port back))
    pub went : looks.given_back (looks.port back) ≡ behind (looks.given_back (looks.port desk)) (map (λ (v : Visit L). v.went) visits)
    pub own : own_of (marked_by sight number log) ≡ entries_of visits
    pub answered : VisitsAnswered settings start (marked_by sight number log) looks [] (looks.resources desk) visits
