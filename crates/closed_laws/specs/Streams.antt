-- The turns of a served stream, and what each of them shows of what a document named before it.
use Rattle.std.specs.Prelude.{◌≡◌, ◌⊎◌, ℕ, zero, suc, ◌==◌, Bool, List, [], ◌∷◌, ◌++◌, Option, Some, None}
use Rattle.mvn_coords.specs.declared.fault.Side.{Side}
use Rattle.repo_model.specs.Command.{look}
use Rattle.repo_model.specs.Data.{Row}
use Rattle.repo_model.specs.History.{Entry, Legal, end}
use Rattle.repo_model.specs.Settings.{Settings}
use Rattle.repo_model.specs.State.{State}
use Rattle.repo_course.specs.Serving.{Outside, RequestTurn}
use Rattle.repo_course.specs.declared.outcomes.End.{End}
use Rattle.repo_course.specs.declared.outcomes.End.TheVariants as stream
use Rattle.closed_laws.specs.Answered.{ReadShows}
use Rattle.closed_laws.specs.Named.{IsSideOf, ShowsNamed, ShowsSide, WasNamed}

-- one turn: whether it is the last that may come, its entries, what is seen after it, and how it ends the stream, if it does
pub record Seen : Type 0 where
  pub last : Bool
  pub entries : List Entry
  pub new : Outside
  pub stop : Option End

-- A stream of at most so many requests is these turns: each begins with what is seen after the one before it, has the entries
-- after those of that one, and lets the connection go on; the last ends it, or no more may come.
unfoldable pub AreTurns : Settings → Type 0 → ℕ → List Seen → List Entry → Outside → Outside → End → Type 0
AreTurns settings tells zero [] entries old new ending = (entries ≡ []) × (new ≡ old) × (ending ≡ stream.TurnLimit)
AreTurns settings tells zero (turn ∷ turns) entries old new ending = ⊥
AreTurns settings tells (suc left) [] entries old new ending = ⊥
AreTurns settings tells (suc left) (turn ∷ turns) entries old new ending =
    (turn.last ≡ (left == 0)) × RequestTurn settings tells turn.last turn.entries old turn.new turn.stop
    × (((turns ≡ []) × (entries ≡ turn.entries) × (new ≡ turn.new) × (turn.stop ≡ Some ending))
    ⊎ ((rest : List Entry) × (entries ≡ turn.entries ++ rest) × (turn.stop ≡ None) × AreTurns settings tells left turns rest turn.new new ending))

-- this entry of a turn, after those of a history, looks at a file that was named in time among them, or at a side file of it: then
-- the turn shows that
abbrev pub ShowsWhatWasNamed : Settings → State → List Entry → Entry → Outside → Seen → Type 0
ShowsWhatWasNamed settings start before e old turn =
    (repo : List ℕ) (row : Row) → WasNamed settings start before repo row e.moment →
    ((tried : List ℕ) → e.command ≡ look repo row.path tried →
    ReadShows settings turn.last repo row.path (ShowsNamed (end settings start before) row.blob) old turn.new turn.stop)
    × ((at tried : List ℕ) (side : Side) → e.command ≡ look repo at tried → IsSideOf row.path side at →
    ReadShows settings turn.last repo at (ShowsSide side row.blob) old turn.new turn.stop)

-- so does the first entry of each of these turns, wherever it lies in a legal history
abbrev pub AllShowWhatWasNamed : Settings → State → Outside → List Seen → Type 0
AllShowWhatWasNamed settings start old [] = Unit {0}
AllShowWhatWasNamed settings start old (turn ∷ turns) =
    ((before more later : List Entry) (e : Entry) → turn.entries ≡ e ∷ more → Legal settings start (before ++ e ∷ later) →
    ShowsWhatWasNamed settings start before e old turn)
    × AllShowWhatWasNamed settings start turn.new turns

-- so does the first entry of each of these turns, whose entries lie one after another after these
abbrev pub AllShowAfter : Settings → State → List Entry → Outside → List Seen → Type 0
AllShowAfter settings start before old [] = Unit {0}
AllShowAfter settings start before old (turn ∷ turns) =
    ((more : List Entry) (e : Entry) → turn.entries ≡ e ∷ more → ShowsWhatWasNamed settings start before e old turn)
    × AllShowAfter settings start (before ++ turn.entries) turn.new turns
