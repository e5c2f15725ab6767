-- A file of a repository that was opened is answered after a crash, up to the first call that takes it away.
use Rattle.std.proofs.Common.{◌≡◌, ◌≢◌, ℕ, List, [], ◌∷◌, ◌++◌, Option, Some, Ok, refl, subst, ap, ◌∙◌}
use Rattle.std.specs.Prelude.{IsTrue}
use Rattle.std.specs.Option.{option_map}
use Rattle.mvn_coords.specs.Kind.{kind}
use Rattle.mvn_coords.specs.Layout.{Coordinates}
use Rattle.mvn_coords.specs.declared.kind.Kind.TheVariants.{File}
use Rattle.outside.specs.Moments.{Moments}
use Rattle.repo_model.specs.Command.{is_there, put}
use Rattle.repo_model.specs.Data.{Blob, Row}
use Rattle.repo_model.specs.Effect.{new_row, recorded}
use Rattle.repo_model.specs.History.{Legal, after, effects_of, end}
use Rattle.repo_model.specs.Reply.{created}
use Rattle.repo_model.specs.Settings.{Settings}
use Rattle.repo_model.specs.State.{State, row_at, rows_of}
use Rattle.repo_model.specs.Tables.{Tables}
use Rattle.repo_laws.specs.Holds.{Holds, InOrder}
use Rattle.repo_laws.specs.Sound.{AreNamedApart, AreProxiesApart, IsSound}
use Rattle.row_tables.specs.Crashes.{Unsettled}
use Rattle.crash_laws.specs.Runs.{tables_after}
use Rattle.crash_laws.proofs.Created.{created-records, created-stands}
use Rattle.repo_core.specs.Whole.{Whole}
use Rattle.repo_course.specs.Cleaning.{Store}
use Rattle.store_check.specs.Checking.{Recorded}
use Rattle.repo_run.specs.Begun.{Begins}
use Rattle.settings_laws.proofs.Apart.{proxies-apart}
use Rattle.served_laws.specs.Crashed.{AreMade, FindsSince, Made, entries_made, unsettled_after}
use Rattle.served_laws.proofs.Crashed.{GoesOn, first-ones, pend-of, put-place, reached, runs-of, since}
use Rattle.served_laws.proofs.Runs.{apart, begun-sound, begun-stands, whole-order}
use Rattle.running_laws.specs.Spared.{IsAnsweredLonger, MayStay, SparedOutlast}
use Rattle.running_laws.proofs.Spared.{entry-longer, left-longer}

module _ (settings : Settings) (named_apart : AreNamedApart settings.hosted) (proxies : AreProxiesApart settings.proxies) (s : State) (t : Tables) (old : Unsettled) (made : List Made)
    (sound : IsSound settings s) (order : InOrder t) (holds : Holds t s) (legal : Legal settings s (entries_made made)) (are : AreMade settings s t made old) where
  -- what stands after a call that recorded something
  pub standing-longer : (first later rest : List Made) (m : Made) (repo : List ℕ) (row : Row) (c : Coordinates) → made ≡ first ++ m ∷ (later ++ rest)
      → recorded (effects_of settings (end settings s (entries_made first)) m.entry) ≢ []
      → row_at row.path (rows_of repo (after settings (end settings s (entries_made first)) m.entry)) ≡ Some row
      → IsTrue (is_there repo settings) → kind row.path ≡ Ok (File c)
      → MayStay settings (after settings (end settings s (entries_made first)) m.entry) repo row.path (entries_made later)
      → FindsSince settings s t old (IsAnsweredLonger settings repo row) (first ++ m ∷ []) later
  standing-longer first later rest m repo row c parts some stands known named stay =
      let at = end settings s (entries_made first) in
      let (there, left, sound', order', holds', legal', are', found_so) =
      reached settings named_apart proxies first later rest m s t old sound order holds (subst (λ (all : List Made). Legal settings s (entries_made all)) parts legal)
      (subst (λ (all : List Made). AreMade settings s t all old) parts are) in
      let next : Tables = tables_after settings at m.entry there in
      let front = first-ones settings later rest (after settings at m.entry) next m.leaves legal'.1 are'.1 in
      let last = unsettled_after m.leaves later in
      let along = pend-of settings later (after settings at m.entry) next m.leaves front.1 in
      since settings (IsAnsweredLonger settings repo row) s t old first later m
      (λ u found.
      left-longer settings at there u m.entry (entries_made later) left.pending m.leaves.pending last.pending repo row c named_apart proxies sound' order' holds' (legal'.0, front.0) stay
      known named some stands are'.0.pends along (found_so u found))
      (entry-longer settings at there m.entry (entries_made later) left m.leaves last repo row c named_apart proxies sound' order' holds' (legal'.0, front.0) stay
      known named some stands (m.leaves, are'.0, refl) (runs-of settings later (after settings at m.entry) next m.leaves front.1))

  -- and what a put created
  pub created-longer : (first later rest : List Made) (m : Made) (repo path : List ℕ) (n : ℕ) (blob : Blob) → made ≡ first ++ m ∷ (later ++ rest)
      → m.entry.command ≡ put repo path n blob → m.entry.reply ≡ created
      → MayStay settings (after settings (end settings s (entries_made first)) m.entry) repo path (entries_made later)
      → FindsSince settings s t old (IsAnsweredLonger settings repo (new_row path blob m.entry.moment)) (first ++ m ∷ []) later
  created-longer first later rest m repo path n blob parts is done stay =
      let at = end settings s (entries_made first) in
      let (there, left, sound', order', holds', legal', are', found_so) =
      reached settings named_apart proxies first later rest m s t old sound order holds (subst (λ (all : List Made). Legal settings s (entries_made all)) parts legal)
      (subst (λ (all : List Made). AreMade settings s t all old) parts are) in
      let (known, (c, named)) = put-place settings repo path n blob m.entry.command is legal'.0.condition in
      standing-longer first later rest m repo (new_row path blob m.entry.moment) c parts (created-records settings at m.entry repo path n blob named_apart sound' legal'.0 is done)
      (created-stands settings at m.entry repo path n blob named_apart sound' legal'.0 is done) known named stay

module _ (settings : Settings) (records : Recorded) (old cleared : Store) (clock : Option Moments) (core : Whole) (begins : Begins settings records old cleared clock core) where
  -- of what a repository made that was opened
  pub begun-longer : (left : Whole) (made : List Made) → ((t : Tables) → core.tables ≡ Some t → GoesOn settings core t made left) → (before : Tables) → records.tables ≡ Some before
      → (whole : Tables) × (core.tables ≡ Some whole) × SparedOutlast settings core.state whole core.unsettled made
  begun-longer left made goes_on before told_so =
      let told_core : core.tables ≡ Some begins.tables = begins.tables_are ∙ ap (option_map (λ (t : Tables). begins.tables)) told_so in
      let on : GoesOn settings core begins.tables made left = goes_on begins.tables told_core in
      let named = apart settings records old cleared clock core begins in
      let proxies = proxies-apart settings begins.form in
      let sound = begun-sound settings records old cleared clock core begins in
      let order = whole-order settings records old cleared clock core begins in
      let holds = (begun-stands settings records old cleared clock core begins).holds in (
        begins.tables,
        told_core,
        record {
          standing = standing-longer settings named proxies core.state begins.tables core.unsettled made sound order holds on.legal on.are;
          created_files = created-longer settings named proxies core.state begins.tables core.unsettled made sound order holds on.legal on.are;
        },
      )
