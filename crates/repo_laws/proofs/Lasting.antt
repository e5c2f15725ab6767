-- The rows of releases stay through a history.
use Rattle.std.proofs.Common.{◌≡◌, List, [], ◌∷◌, Option, Some}
use Rattle.std.specs.List.{AllByRecursion}
use Rattle.outside.specs.Moments.{Moments}
use Rattle.repo_model.specs.Data.{Hosted}
use Rattle.repo_model.specs.Settings.{Settings}
use Rattle.repo_model.specs.State.{State, opening, new_hosted, row_at, rows_of}
use Rattle.repo_model.specs.History.{Entry, Fits, after, Legal, end}
use Rattle.repo_laws.specs.Laws.{FadingAreSnapshots, KeepsReleases}
use Rattle.repo_model.specs.Paths.{FadesRightly}
use Rattle.repo_laws.specs.Sound.{AreNamedApart, Sound}
use Rattle.repo_laws.proofs.Releases.{releases-kept, rightly-kept}
use Rattle.repo_laws.proofs.Histories.{entry-keeps, sound-entry}
use Rattle.repo_laws.proofs.HoldingLists.{all-map}

pub opening-rightly : (settings : Settings) (clock : Option Moments) → FadingAreSnapshots (opening settings clock)
opening-rightly settings clock = all-map new_hosted (λ (h : Hosted). AllByRecursion FadesRightly h.rows) (λ rule. tt) settings.hosted

module _ (settings : Settings) (apart : AreNamedApart settings.hosted) where
  rightly-entry : (s : State) (e : Entry) → Fits settings s e → Sound settings s → FadingAreSnapshots s → FadingAreSnapshots (after settings s e)
  rightly-entry s e fits sound right =
      entry-keeps settings apart s e FadingAreSnapshots fits sound (λ t f _ may old. rightly-kept settings.grace e.moment t f old may) right

  releases-entry : (s : State) (e : Entry) → Fits settings s e → Sound settings s → FadingAreSnapshots s → KeepsReleases s (after settings s e)
  releases-entry s e fits sound right repo path row release is =
      (entry-keeps settings apart s e (λ t. FadingAreSnapshots t × (row_at path (rows_of repo t) ≡ Some row)) fits sound
      (λ t f _ may old. (rightly-kept settings.grace e.moment t f old.0 may, releases-kept settings.grace e.moment t f old.0 may repo path row release old.1)) (right, is)).1

  pub releases-last : (entries : List Entry) (s : State) → Sound settings s → FadingAreSnapshots s → Legal settings s entries → KeepsReleases s (end settings s entries)
  releases-last [] s sound right legal repo path row release is = is
  releases-last (e ∷ entries) s sound right legal repo path row release is =
      releases-last entries (after settings s e) (sound-entry settings apart s e legal.0 sound) (rightly-entry s e legal.0 sound right) legal.1 repo path row release
      (releases-entry s e legal.0 sound right repo path row release is)
