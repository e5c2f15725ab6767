-- What a desk does: the connections that its port hands out, one after another, each served as a stream; its seat's entries are theirs.
use Rattle.std.specs.Prelude.{◌≡◌, ◌+◌, ℕ, Bool, true, false, List, [], ◌∷◌, map, min, Option}
use Rattle.std.specs.List.{flat_map}
use Rattle.outside.specs.Faults.{last_count}
use Rattle.outside.specs.Told.{in_front, behind, IsAtEnd}
use Rattle.repo_model.specs.History.{Entry}
use Rattle.repo_model.specs.Settings.{Settings}
use Rattle.repo_course.specs.declared.outcomes.End.{End}
use Rattle.repo_course.specs.Serving.{ServesStream}
use Rattle.run_desks.specs.Seen.{DeskResources, Looks, around}
use Rattle.turn_lock.specs.declared.turns.Turns.{Turns}
use Rattle.turn_lock.specs.declared.seat.SeatToken.{SeatToken as Seat}
use Rattle.seat_server.specs.Gained.{Gained}
use Rattle.seat_server.specs.Rules.{Rules}

-- one connection: as it came and as it went, the bytes that were read ahead and not used, how its stream ended, its entries, and the desk's things after it
pub record Visit (L : Type 0) : Type 0 where
  pub came : L
  pub went : L
  pub held : List ℕ
  pub ending : End
  pub entries : List Entry
  pub left : DeskResources

-- each connection in turn was served as a stream
abbrev pub Attends : {L P D : Type 0} → Looks L P D → Settings → DeskResources → List (Visit L) → DeskResources → Type 0
Attends looks settings before [] after = after ≡ before
Attends looks settings before (v ∷ vs) after =
    ServesStream settings looks.tells 1000 v.entries (around looks [] v.came before) (around looks v.held v.went v.left) v.ending
    × Attends looks settings v.left vs after

-- the entries of the connections, one after another
abbrev pub entries_of : {L : Type 0} → List (Visit L) → List Entry
entries_of visits = flat_map (λ v. v.entries) visits

-- The connections that were handed out were served in turn and given back in order, and the seat gained just their entries
pub record Attended {L P D T C R : Type 0} (looks : Looks L P D) (rules : Rules T C R) (settings : Settings) (turns : Turns T C R) (old new : Seat C R T) (desk desk' : D) : Type 0 where
  pub visits : List (Visit L)
  pub attends : Attends looks settings (looks.resources desk) visits (looks.resources desk')
  pub gained : Gained rules.sight rules.steps turns old (entries_of visits) new
  pub came : looks.left (looks.port desk) ≡ in_front (map (λ (v : Visit L). v.came) visits) (looks.left (looks.port desk'))
  pub went : looks.given_back (looks.port desk') ≡ behind (looks.given_back (looks.port desk)) (map (λ (v : Visit L). v.went) visits)

-- a port failed, once, and was asked for nothing afterwards; or no connection is left, where it tells them
abbrev pub IsOver : {L : Type 0} → Bool → Option (List L) → ℕ → ℕ → Type 0
IsOver true left before after = after ≡ min (before + 1) last_count
IsOver false left before after = (after ≡ before) × IsAtEnd left
