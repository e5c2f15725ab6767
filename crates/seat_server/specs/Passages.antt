-- What the cleaner does: pauses, and a pass over the repositories after each that asks for one; its seat's entries are theirs.
use Rattle.std.specs.Prelude.{◌≡◌, ℕ, zero, suc, Bool, true, false, List, [], ◌∷◌, length, Option, Result, IfSome}
use Rattle.std.specs.List.{flat_map}
use Rattle.std.specs.Option.{option_map}
use Rattle.outside_pace.specs.Pauses.{Pauses, first_answer, paused}
use Rattle.repo_model.specs.History.{Entry}
use Rattle.repo_model.specs.Settings.{Settings}
use Rattle.repo_course.specs.declared.outcomes.CleanFault.{CleanFault}
use Rattle.repo_course.specs.declared.outcomes.Cleaned.{Cleaned}
use Rattle.repo_course.specs.Cleaning.{PassesAll, Store}
use Rattle.run_desks.specs.Seen.{CleanerResources}
use Rattle.turn_lock.specs.declared.turns.Turns.{Turns}
use Rattle.turn_lock.specs.declared.seat.SeatToken.{SeatToken as Seat}
use Rattle.seat_server.specs.Gained.{Gained}
use Rattle.seat_server.specs.Rules.{Rules}

-- one pass: its entries, what came of it, and the blobs after it
pub record Passage : Type 0 where
  pub entries : List Entry
  pub result : Result Cleaned CleanFault
  pub left : Store

-- each in turn was a pass over all repositories
abbrev pub PassesThrough : Settings → Store → List Passage → Store → Type 0
PassesThrough settings before [] after = after ≡ before
PassesThrough settings before (p ∷ ps) after = PassesAll settings p.entries before p.left p.result × PassesThrough settings p.left ps after

-- the entries of the passes, one after another
abbrev pub entries_in : List Passage → List Entry
entries_in passages = flat_map (λ p. p.entries) passages

-- the next pause answers so, where the timer tells its answers
abbrev pub Answers : Bool → Option Pauses → Type 0
Answers answer told = IfSome told (λ p. first_answer p.left ≡ answer)

-- so many pauses, of so many seconds each, all answered true
abbrev pub AnswersTrue : ℕ → ℕ → Option Pauses → Option Pauses → Type 0
AnswersTrue seconds zero old new = new ≡ old
AnswersTrue seconds (suc n) old new = Answers true old × AnswersTrue seconds n (option_map (paused seconds) old) new

-- so many pauses answered true, and then one more, as long, answered false
abbrev pub IsPaced : ℕ → ℕ → Option Pauses → Option Pauses → Type 0
IsPaced seconds n old new = (last : Option Pauses) × AnswersTrue seconds n old last × Answers false last × (new ≡ option_map (paused seconds) last)

-- After each pause that answered true, one pass was made, up to the first that answered false; and the seat gained just the entries of the passes
pub record KeptClean {T C R : Type 0} (rules : Rules T C R) (settings : Settings) (turns : Turns T C R) (old new : Seat C R T) (before after : CleanerResources) : Type 0 where
  pub passages : List Passage
  pub passes : PassesThrough settings before.blobs passages after.blobs
  pub gained : Gained rules.sight rules.steps turns old (entries_in passages) new
  pub paced : IsPaced settings.clean (length passages) before.pauses after.pauses
