-- The first connection of a desk: it is taken from the port, served by a repository, and given back.
use Rattle.std.specs.Prelude.{◌≡◌, ℕ, List, [], ◌∷◌, Option, Some, None}
use Rattle.outside.specs.declared.tells.Tells.{Ghosts as Telling}
use Rattle.outside.specs.Faults.{Rose}
use Rattle.outside.specs.Told.{behind, in_front, IsAtEnd}
use Rattle.repo_core.specs.Whole.{Whole}
use Rattle.repo_core.specs.CoreTurn.{CoreTurn}
use Rattle.repo_model.specs.History.{Entry}
use Rattle.repo_model.specs.Settings.{Settings}
use Rattle.repo_course.specs.Asking.{LeadsTo}
use Rattle.repo_course.specs.declared.outcomes.End.{End}
use Rattle.repo_course.specs.declared.outcomes.End.TheVariants.{Closed}
use Rattle.repo_course.specs.Serving.{ServesStream}
use Rattle.run_desks.specs.Seen.{DeskResources}
use Rattle.repo_run.specs.Surroundings.{DeskState, connection, outside_at}

-- the entries are the turns of the core, one after another
abbrev pub Makes : Whole → List Entry → Whole → Type 0
Makes old entries new = LeadsTo (λ (before : Whole) entry after. CoreTurn before.settings before entry after) old entries new

-- What comes of it: the port fails, none is left, or one is served, of which the repository was in this state and is in that.
pub data ServesFirst {X : Type 0} (tells : Type 0) (links : Telling X) (settings : Settings) (old new : DeskState X) (core core' : Whole) (result : Option End) : Type 0 where
  port_failed : (faults : ℕ) → Rose old.port_faults faults → new ≡ record old { port_faults = faults } → core' ≡ core → result ≡ None
      → ServesFirst tells links settings old new core core' result
  none_left : IsAtEnd old.left → new ≡ old → core' ≡ core → result ≡ Some Closed → ServesFirst tells links settings old new core core' result
  one_served : (link link' : X) (left : Option (List X)) (held : List ℕ) (resources : DeskResources) (ending : End) (entries : List Entry) → old.left ≡ in_front (link ∷ []) left
      → new ≡ record old { left = left; given_back = behind old.given_back (link' ∷ []); resources = resources }
      → Makes core entries core' → ServesStream settings tells 1000 entries
      (outside_at (in_front [] (links.left link)) (connection links link) old.resources) (outside_at (in_front held (links.left link')) (connection links link') resources) ending
      → result ≡ Some ending → ServesFirst tells links settings old new core core' result
