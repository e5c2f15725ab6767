-- After a commit that is done each staged file is visible with its content, and so is the pom of each release's version directory.
use Rattle.std.proofs.Common.{◌≡◌, ℕ, true, false, ◌&&◌, ◌||◌, inl, inr, List, [], ◌∷◌, ◌++◌, length, Option, Some, None, refl, sym, ◌∙◌, ap, subst}
use Rattle.std.specs.Prelude.{fold, find, if◌then◌else◌, bytes_eq, IsTrue}
use Rattle.std.specs.List.{AllByRecursion, list_any, flat_map}
use Rattle.std.proofs.lemmas.Bool.{false≢true, and_parts}
use Rattle.std.proofs.lemmas.Option.{none-some}
use Rattle.mvn_coords.specs.Layout.{Coordinates, version_directory_of}
use Rattle.repo_model.specs.declared.print.Print.{Print}
use Rattle.repo_model.specs.declared.session.SessionResult.{SessionResult}
use Rattle.repo_model.specs.declared.session.SessionResult.TheVariants.{Done}
use Rattle.repo_model.specs.Data.{Row, Phase, listed, fading, Staged, Session}
use Rattle.repo_model.specs.Settings.{Settings}
use Rattle.repo_model.specs.Paths.{file_at}
use Rattle.repo_model.specs.Document.{is_listed}
use Rattle.repo_model.specs.State.{State, change_where, is_row, is_session, is_staged, row_at, rows_of, session_of}
use Rattle.repo_model.specs.Effect.{Effect, delivers, discards, relists, ends, with_row, new_row, list_again, with_effect, with_effects}
use Rattle.repo_model.specs.Command.{commit, is_there}
use Rattle.repo_model.specs.Reply.{ended, offends, missing_pom, no_memory, store_fault, is_free}
use Rattle.repo_model.specs.Deploy.{Offence, offence, without_pom, least, pom_of, has_pom, deliver_at, deliver_again, deliver_all}
use Rattle.repo_model.specs.Turn.{Turn, turn, commit_by}
use Rattle.repo_model.specs.History.{Entry, IsReply, due, wants_memory, failed, Fits, effects_of, after, ticked}
use Rattle.repo_laws.specs.Laws.{AnyByRecursion, AreApart}
use Rattle.repo_laws.specs.Sound.{IsInOrder, Sound}
use Rattle.repo_laws.specs.Causes.{OffendsNot}
use Rattle.repo_laws.specs.Deployed.{IsVisible, IsVisibleAs, HasItsPom}
use Rattle.repo_laws.proofs.ByPath.{all-apart}
use Rattle.repo_laws.proofs.CausesCommit.{none-offends, Bare, bare, so-lacks, has-least}
use Rattle.repo_laws.proofs.Commits.{Ready, delivered, discarded, relisted, all-same}
use Rattle.repo_laws.proofs.HoldingLists.{any-one}
use Rattle.repo_laws.proofs.HoldingRows.{row-new}
use Rattle.repo_laws.proofs.Lists.{all-then, each-found}
use Rattle.repo_laws.proofs.Orderly.{found-has, there-as-set}
use Rattle.repo_laws.proofs.Places.{rows-apart}
use Rattle.repo_laws.proofs.Purges.{listed-so}
use Rattle.repo_laws.proofs.Releases.{same_path, is_itself, other_path, with_row-elsewhere, change-elsewhere}
use Rattle.repo_laws.proofs.Rows.{RowsApart, rows-changed, rows-there}
use Rattle.repo_laws.proofs.Stands.{change-there}
use Rattle.repo_laws.proofs.Turns.{open-too}

module _ (grace now : ℕ) (one : Session) (rows : List Row) where
  abbrev there_rows : State → List Row
  there_rows t = rows_of one.repo t

  -- what is visible stays so
  visible-delivered : (path : List ℕ) (print : Print) (t : State) (file : Staged) → row_at file.path (there_rows t) ≡ None → IsVisibleAs path print (there_rows t)
      → IsVisibleAs path print (there_rows (with_effect t (delivers one.number one.repo file.path file.blob now)))
  visible-delivered path print t file free (row, found, phase, same) =
      rows-changed one.repo one.repo (with_row (new_row file.path file.blob now)) (IsVisibleAs path print) t.hosted (row, found, phase, same)
      (λ _. (
        row,
        with_row-elsewhere path (new_row file.path file.blob now) (there_rows t) (other_path file.path path (λ here. none-some row (sym free ∙ ap (λ p. row_at p (there_rows t)) here ∙ found))) ∙ found,
        phase,
        same,
      ))

  visible-relisted : (path : List ℕ) (print : Print) (t : State) (at : List ℕ) → IsVisibleAs path print (there_rows t) → IsVisibleAs path print (there_rows (with_effect t (relists one.repo at now)))
  visible-relisted path print t at (row, found, phase, same) =
      rows-changed one.repo one.repo (change_where (is_row at) (list_again now)) (IsVisibleAs path print) t.hosted (row, found, phase, same)
      (λ _.
      elim (bytes_eq at path) as (λ b. bytes_eq at path ≡ b → IsVisibleAs path print (change_where (is_row at) (list_again now) (there_rows t))) [
        | true ↦ λ is.
            subst (λ (p : List ℕ). IsVisibleAs path print (change_where (is_row p) (list_again now) (there_rows t))) (sym (same_path at path is))
            (list_again now row, change-there path (list_again now) (λ r. refl) (there_rows t) row found, refl, same)
        | false ↦ λ is. (row, change-elsewhere path at (list_again now) (λ r. refl) (λ here. false≢true (sym is ∙ ap (λ p. bytes_eq p path) here ∙ is_itself path)) (there_rows t) ∙ found, phase, same)
      ] refl)

  -- the state after what is done for one file: the file is visible, and what was visible is
  pub record Behind (t : State) (file : Staged) (files : List Staged) (found : Option Row) : Type 0 where
    pub state : State
    pub ready : Ready grace now one rows state files files
    pub visible : IsVisibleAs file.path file.blob.print (there_rows state)
    pub keeps : (path : List ℕ) (print : Print) → IsVisibleAs path print (there_rows t) → IsVisibleAs path print (there_rows state)
    pub leads : (more last : List Effect) → with_effects t ((deliver_at one now file found ++ more) ++ last) ≡ with_effects state (more ++ last)

  behind : (t : State) (file : Staged) (files : List Staged) → find (is_staged file.path) files ≡ None → Ready grace now one rows t (file ∷ files) (file ∷ files) → OffendsNot rows file
      → (found : Option Row) → row_at file.path rows ≡ found → Behind t file files found
  behind t file files none ready quiet None is =
      let next : Ready grace now one rows t (file ∷ files) files = record { opened = ready.opened; there = ready.there; same = ready.same.1 } in
      let free : row_at file.path (there_rows t) ≡ None = ready.same.0 ∙ is in
      record {
        state = with_effect t (delivers one.number one.repo file.path file.blob now);
        ready = (delivered grace now one rows t file files none next free).1;
        visible = (
          new_row file.path file.blob now,
          ap (row_at file.path) (rows-there one.repo (with_row (new_row file.path file.blob now)) t.hosted ready.there) ∙ row-new (new_row file.path file.blob now) (there_rows t) free,
          refl,
          refl,
        );
        keeps = λ path print. visible-delivered path print t file free;
        leads = λ more last. refl;
      }
  behind t file files none ready quiet (Some row) is = by row.phase refl where
    next : Ready grace now one rows t (file ∷ files) files
    next = record { opened = ready.opened; there = ready.there; same = ready.same.1 }

    found : row_at file.path (there_rows t) ≡ Some row
    found = ready.same.0 ∙ is

    by : (phase : Phase) → row.phase ≡ phase → Behind t file files (Some row)
    by listed phase_is = record {
      state = with_effect t (discards one.number file.path file.blob.number);
      ready = (discarded grace now one rows t file files none next).1;
      visible = (row, found, phase_is, quiet row is);
      keeps = λ path print visible. visible;
      leads = λ more last. ap (λ phase. with_effects t ((deliver_again one now file phase ++ more) ++ last)) phase_is;
    }
    by (fading since) phase_is =
        let (_, mid) = relisted grace now one rows t file files row since none next found phase_is in
        record {
          state = with_effect (with_effect t (relists one.repo file.path now)) (discards one.number file.path file.blob.number);
          ready = (discarded grace now one rows (with_effect t (relists one.repo file.path now)) file files none mid).1;
          visible = (
            list_again now row,
            ap (row_at file.path) (rows-there one.repo (change_where (is_row file.path) (list_again now)) t.hosted ready.there)
                ∙ change-there file.path (list_again now) (λ r. refl) (there_rows t) row found,
            refl,
            quiet row is,
          );
          keeps = λ path print visible. visible-relisted path print t file.path visible;
          leads = λ more last. ap (λ phase. with_effects t ((deliver_again one now file phase ++ more) ++ last)) phase_is;
        }

  abbrev all_of : List Staged → List Effect
  all_of files = flat_map (λ (file : Staged). deliver_at one now file (row_at file.path rows)) files

  -- after all of them
  keeps-all : (files : List Staged) (t : State) (result : SessionResult) → AreApart files → Ready grace now one rows t files files → AllByRecursion (OffendsNot rows) files
      → (path : List ℕ) (print : Print) → IsVisibleAs path print (there_rows t) → IsVisibleAs path print (there_rows (with_effects t (all_of files ++ ends one.number result ∷ [])))
  keeps-all [] t result apart ready quiet path print visible = visible
  keeps-all (file ∷ files) t result apart ready quiet path print visible =
      let b = behind t file files apart.0 ready quiet.0 (row_at file.path rows) refl in
      subst (λ (u : State). IsVisibleAs path print (there_rows u)) (sym (b.leads (all_of files) (ends one.number result ∷ [])))
      (keeps-all files b.state result apart.1 b.ready quiet.1 path print (b.keeps path print visible))

  visible-all : (files : List Staged) (t : State) (result : SessionResult) → AreApart files → Ready grace now one rows t files files → AllByRecursion (OffendsNot rows) files
      → AllByRecursion (λ (file : Staged). IsVisibleAs file.path file.blob.print (there_rows (with_effects t (all_of files ++ ends one.number result ∷ [])))) files
  visible-all [] t result apart ready quiet = tt
  visible-all (file ∷ files) t result apart ready quiet =
      let b = behind t file files apart.0 ready quiet.0 (row_at file.path rows) refl in
      subst (λ (u : State). AllByRecursion (λ (f : Staged). IsVisibleAs f.path f.blob.print (there_rows u)) (file ∷ files)) (sym (b.leads (all_of files) (ends one.number result ∷ [])))
      (keeps-all files b.state result apart.1 b.ready quiet.1 file.path file.blob.print b.visible, visible-all files b.state result apart.1 b.ready quiet.1)

-- ---- poms
any-listed : (pom : List ℕ) (rows : List Row) → RowsApart rows → list_any (λ row. is_row pom row && is_listed row.phase) rows ≡ true → IsVisible pom rows
any-listed pom rows apart any =
    let (row, is, found) = any-one (λ (r : Row). row_at r.path rows ≡ Some r) (λ row. is_row pom row && is_listed row.phase) rows (each-found rows apart) any in
    let (here, shown) = and_parts (is_row pom row) (is_listed row.phase) is in
    (row, subst (λ (p : List ℕ). row_at p rows ≡ Some row) (same_path row.path pom here) found, listed-so row.phase shown)

staged-visible : (pom : List ℕ) (rows : List Row) (files : List Staged) → AllByRecursion (λ (file : Staged). IsVisibleAs file.path file.blob.print rows) files → list_any (is_staged pom) files ≡ true → IsVisible pom rows
staged-visible pom rows files all any =
    let (file, is, (row, found, phase, _)) = any-one (λ (f : Staged). IsVisibleAs f.path f.blob.print rows) (is_staged pom) files all any in
    (row, subst (λ (p : List ℕ). row_at p rows ≡ Some row) (same_path file.path pom is) found, phase)

least-some : (texts : List (List ℕ)) (text : List ℕ) → AnyByRecursion (λ (other : List ℕ). other ≡ text) texts → fold least None texts ≡ None → ⊥
least-some [] text among none = among
least-some (first ∷ texts) text among none = let (m, is, _, _) = has-least texts first in none-some m (sym none ∙ is)

none-of : {X : Type 0} (P : X → Type 0) (xs : List X) → (AnyByRecursion P xs → ⊥) → AllByRecursion (λ x. P x → ⊥) xs
none-of P [] never = tt
none-of P (x ∷ xs) never = (λ here. never (inl here), none-of P xs (λ later. never (inr later)))

all-swap : {X Y : Type 0} (P : Y → X → Type 0) (xs : List X) → ((y : Y) → AllByRecursion (P y) xs) → AllByRecursion (λ x. (y : Y) → P y x) xs
all-swap P [] so = tt
all-swap P (x ∷ xs) so = (λ y. (so y).0, all-swap P xs (λ y. (so y).1))

-- where no directory is without its pom, each release has one
has-poms : (rows : List Row) (files : List Staged) → without_pom rows files ≡ None
    → AllByRecursion (λ (file : Staged). (c : Coordinates) → file_at file.path ≡ Some c → c.build ≡ None → has_pom rows files (pom_of c) ≡ true) files
has-poms rows files none =
    all-then (λ (file : Staged). (directory : List ℕ) → Bare rows files directory (file_at file.path) → ⊥)
    (λ (file : Staged). (c : Coordinates) → file_at file.path ≡ Some c → c.build ≡ None → has_pom rows files (pom_of c) ≡ true)
    (λ file never c is built.
    elim (has_pom rows files (pom_of c)) as (λ b. has_pom rows files (pom_of c) ≡ b → b ≡ true) [
      | true ↦ λ _. refl
      | false ↦ λ lacks. absurd (never (version_directory_of c) (c, is, built, refl, lacks))
    ] refl)
    files
    (all-swap (λ directory (file : Staged). Bare rows files directory (file_at file.path) → ⊥) files
    (λ directory. none-of (λ (file : Staged). Bare rows files directory (file_at file.path)) files (λ lacks. least-some (flat_map (bare rows files) files) directory (so-lacks rows files directory lacks) none)))

-- ---- an entry
module _ (settings : Settings) (old : State) (e : Entry) (n k : ℕ) (one : Session) (sound : Sound settings old) (fits : Fits settings old e) (is_commit : e.command ≡ commit n)
    (known : session_of n old ≡ Some one) (going : one.ended ≡ None) (is_done : e.reply ≡ ended (Done k)) where
  abbrev rows : List Row
  rows = rows_of one.repo old

  abbrev Committed : Option Offence → Option (List ℕ) → Type 0
  Committed other pom = (commit_by one e.moment rows other pom).reply ≡ ended (Done k) → (other ≡ None) × (pom ≡ None) × (length one.staged ≡ k)

  committed : (other : Option Offence) (pom : Option (List ℕ)) → Committed other pom
  committed (Some other) pom is = absurd (let x : offends other.path other.kept other.sent ≡ ended (Done k) = is in cc)
  committed None (Some directory) is = absurd (let x : missing_pom directory ≡ ended (Done k) = is in cc)
  committed None None is = (refl, refl, (let x : ended (Done (length one.staged)) ≡ ended (Done k) = is in cc))

  turn-is : (turn settings old e.moment e.command) ≡ commit_by one e.moment rows (offence rows one.staged) (without_pom rows one.staged)
  turn-is = ap (turn settings old e.moment) is_commit ∙ rw (known, going) refl

  parts : (offence rows one.staged ≡ None) × (without_pom rows one.staged ≡ None) × (length one.staged ≡ k)
  parts = by fits.reply where
    by : IsReply settings old e → (offence rows one.staged ≡ None) × (without_pom rows one.staged ≡ None) × (length one.staged ≡ k)
    by (due is _) = committed (offence rows one.staged) (without_pom rows one.staged) (ap (λ (t : Turn). t.reply) (sym turn-is) ∙ sym is ∙ is_done)
    by (wants_memory is _ _) = absurd (let x : no_memory ≡ ended (Done k) = sym is ∙ is_done in cc)
    by (failed is _ _) = absurd (let x : store_fault ≡ ended (Done k) = sym is ∙ is_done in cc)

  abbrev done_all : List Effect
  done_all = deliver_all one e.moment rows ++ ends one.number (Done (length one.staged)) ∷ []

  effects-are : effects_of settings old e ≡ done_all
  effects-are =
      ap (λ r. if is_free r then [] else (turn settings old e.moment e.command).effects) is_done
      ∙ ap (λ (t : Turn). t.effects) turn-is
      ∙ ap (λ other. (commit_by one e.moment rows other (without_pom rows one.staged)).effects) parts.0
      ∙ ap (λ pom. (commit_by one e.moment rows None pom).effects) parts.1

  abbrev begun : State
  begun = ticked old e.moment e.faults

  in_order : (one.ended ≡ None → IsTrue (is_there one.repo settings)) × AreApart one.staged
  in_order = found-has (IsInOrder settings) (is_session n) old.sessions one sound.sessions known

  is_ready : Ready settings.grace e.moment one rows begun one.staged one.staged
  is_ready = record {
    opened = open-too settings.grace e.moment n old.sessions one known going;
    there = there-as-set settings old one.repo sound.rules ∙ in_order.0 going;
    same = all-same rows one.staged;
  }

  quiet : AllByRecursion (OffendsNot rows) one.staged
  quiet = none-offends rows one.staged parts.0

  abbrev AtEnd : State → Type 0
  AtEnd t = AllByRecursion (λ (file : Staged). IsVisibleAs file.path file.blob.print (rows_of one.repo t)) one.staged

  files-then : AtEnd (with_effects begun done_all)
  files-then = visible-all settings.grace e.moment one rows one.staged begun (Done (length one.staged)) in_order.1 is_ready quiet

  after-is : after settings old e ≡ with_effects begun done_all
  after-is = ap (with_effects begun) effects-are

  pub files-visible : AtEnd (after settings old e)
  files-visible = subst AtEnd (sym after-is) files-then

  pub count-is : k ≡ length one.staged
  count-is = sym parts.2

  pom-then : (pom : List ℕ) → has_pom rows one.staged pom ≡ true → IsVisible pom (rows_of one.repo (with_effects begun done_all))
  pom-then pom has =
      elim (list_any (is_staged pom) one.staged)
      as (λ b. list_any (is_staged pom) one.staged ≡ b → (b || list_any (λ row. is_row pom row && is_listed row.phase) rows) ≡ true → IsVisible pom (rows_of one.repo (with_effects begun done_all))) [
        | true ↦ λ is _. staged-visible pom (rows_of one.repo (with_effects begun done_all)) one.staged files-then is
        | false ↦ λ _ kept.
            let (row, found, phase) = any-listed pom rows (rows-apart one.repo old.hosted (all-apart old.hosted sound.rows)) kept in
            let (r, found_then, phase_then, _) = keeps-all settings.grace e.moment one rows one.staged begun (Done (length one.staged)) in_order.1 is_ready quiet pom row.blob.print (row, found, phase, refl) in
            (r, found_then, phase_then)
      ] refl has

  pub poms-visible : AllByRecursion (HasItsPom (rows_of one.repo (after settings old e))) one.staged
  poms-visible =
      all-then (λ (file : Staged). (c : Coordinates) → file_at file.path ≡ Some c → c.build ≡ None → has_pom rows one.staged (pom_of c) ≡ true) (HasItsPom (rows_of one.repo (after settings old e)))
      (λ file so c is built. subst (λ (t : State). IsVisible (pom_of c) (rows_of one.repo t)) (sym after-is) (pom-then (pom_of c) (so c is built)))
      one.staged (has-poms rows one.staged parts.1)
