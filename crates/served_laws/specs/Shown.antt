-- What the connections of desks show of the files that documents named, each turn at its place in one history.
use Rattle.std.specs.Prelude.{◌≡◌, List, [], ◌∷◌, ◌++◌, map}
use Rattle.std.specs.List.{AllZip}
use Rattle.outside.specs.Told.{behind, in_front}
use Rattle.repo_model.specs.History.{Entry}
use Rattle.repo_model.specs.Settings.{Settings}
use Rattle.repo_course.specs.Asking.{LiesIn}
use Rattle.repo_course.specs.Serving.{Outside}
use Rattle.repo_course.specs.declared.outcomes.End.{End}
use Rattle.closed_laws.specs.Streams.{AreTurns, Seen}
use Rattle.run_desks.specs.Seen.{DeskResources, Looks, around}
use Rattle.desk_work.specs.Visits.{Attends, Visit, entries_of}

-- what a turn shows, that was seen from this on and whose first entry stands after those of a history
abbrev pub Showing : Type 1
Showing = List Entry → Entry → Outside → Seen → Type 0

-- so does each of these turns, at every place of the history where its first entry stands
abbrev pub AllShowIn : Showing → List Entry → Outside → List Seen → Type 0
AllShowIn Shows history old [] = Unit {0}
AllShowIn Shows history old (turn ∷ turns) =
    ((before more later : List Entry) (e : Entry) → turn.entries ≡ e ∷ more → history ≡ before ++ e ∷ later → Shows before e old turn)
    × AllShowIn Shows history turn.new turns

-- a connection was served by these turns, of at most 1,000 requests, and each of them shows it
pub record ConnectionShows (Shows : Showing) (settings : Settings) (tells : Type 0) (history entries : List Entry) (old new : Outside) (ending : End) : Type 0 where
  pub turns : List Seen
  pub are : AreTurns settings tells 1000 turns entries old new ending
  pub show : AllShowIn Shows history old turns

module _ {L P D : Type 0} (looks : Looks L P D) (Shows : Showing) (settings : Settings) (history : List Entry) where
  -- each of these connections in turn does
  abbrev pub VisitsShow : DeskResources → List (Visit L) → Type 0
  VisitsShow before [] = Unit {0}
  VisitsShow before (v ∷ vs) =
      ConnectionShows Shows settings looks.tells history v.entries (around looks [] v.came before) (around looks v.held v.went v.left) v.ending
      × VisitsShow v.left vs

  -- A desk was handed these connections, served each and gave each back; their entries stand in the history in their order
  pub record DeskShows (desk back : D) : Type 0 where
    pub visits : List (Visit L)
    pub attends : Attends looks settings (looks.resources desk) visits (looks.resources back)
    pub came : looks.left (looks.port desk) ≡ in_front (map (λ (v : Visit L). v.came) visits) (looks.left (looks.port back))
    pub went : looks.given_back (looks.port back) ≡ behind (looks.given_back (looks.port desk)) (map (λ (v : Visit L). v.went) visits)
    pub lie : LiesIn (entries_of visits) history
    pub show : VisitsShow (looks.resources desk) visits

  -- so did all desks
  abbrev pub DesksShow : List D → List D → Type 0
  DesksShow desks back = AllZip DeskShows desks back
