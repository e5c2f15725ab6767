-- Staged files stand in byte order of path, and so do the items of a commit.
use Rattle.std.proofs.Common.{◌≡◌, ℕ, true, false, not, List, [], ◌∷◌, ◌++◌, length, Option, Some, None, refl, sym, ◌∙◌, ap, subst, append-nil}
use Rattle.std.specs.Prelude.{find, if◌then◌else◌}
use Rattle.std.specs.List.{AllByRecursion, flat_map}
use Rattle.std.specs.List.Sorted.{IsStrictlySortedBy}
use Rattle.std.specs.Ordering.{ordering_reverse}
use Rattle.std.specs.Cmp.{IsTotalOrder, on_total, tied_itself}
use Rattle.std.specs.declared.cmp.Ordering.{Ordering}
use Rattle.std.specs.declared.cmp.Ordering.TheVariants.{Less, Equal, Greater}
use Rattle.std.specs.Cmp.Lexicographic.{nat_list_cmp_total}
use Rattle.std.proofs.lemmas.Grind.{flat_map-append}
use Rattle.std.proofs.lemmas.Option.{none-some}
use Rattle.repo_model.specs.declared.session.SessionResult.TheVariants.{Done}
use Rattle.repo_model.specs.Data.{Row, listed, fading, Staged, Session, is_same_print}
use Rattle.repo_model.specs.Settings.{Settings}
use Rattle.repo_model.specs.State.{State, change_first, is_staged, is_session, is_open_at, row_at, rows_of}
use Rattle.repo_model.specs.Effect.{Effect, stages, delivers, discards, opens, ends, with_staged, without_staged, new_session, with_effect, recorded}
use Rattle.repo_model.specs.May.{May}
use Rattle.repo_model.specs.Command.{Command, commit}
use Rattle.repo_model.specs.Deploy.{Offence, or_else, offence_at, offence}
use Rattle.repo_model.specs.Turn.{Turn, turn}
use Rattle.repo_model.specs.History.{Entry, Fits, Legal, after, end}
use Rattle.repo_laws.specs.Sound.{AreNamedApart, Sound}
use Rattle.repo_laws.specs.Holds.{item_again, item_at}
use Rattle.repo_laws.specs.Staged.{path_cmp, staged_cmp, StagedByPath, row_path, row_paths}
use Rattle.repo_laws.proofs.Orderly.{first-keeps, found-has}
use Rattle.repo_laws.proofs.Histories.{entry-keeps, sound-entry}
use Rattle.repo_laws.proofs.Cases.{Case, makes_row, lists_again, opens_one, deploys, aborts, unlists, collects, turn-case, lands_one}
use Rattle.repo_laws.proofs.HoldingLists.{all-push, all-change_first}
use Rattle.repo_laws.proofs.Inserted.{filter-ordered, free-keyed, inserted-ordered, with_staged-is}
use Rattle.repo_laws.proofs.Lists.{all-then}
use Rattle.repo_laws.proofs.HoldingTurns.{deploy-items}

paths-order : IsTotalOrder path_cmp
paths-order = nat_list_cmp_total

staged-order : IsTotalOrder staged_cmp
staged-order = on_total (λ (file : Staged). file.path) nat_list_cmp_total

none-rise : {K : Type 0} (c : K → K → Ordering) → IsStrictlySortedBy c []
unfolding IsStrictlySortedBy
none-rise c = tt

with_staged-ordered : (new : Staged) (files : List Staged) → find (is_staged new.path) files ≡ None → IsStrictlySortedBy staged_cmp files → IsStrictlySortedBy staged_cmp (with_staged new files)
with_staged-ordered new files free rising =
    subst (IsStrictlySortedBy staged_cmp) (sym (with_staged-is new files)) (inserted-ordered staged_cmp staged-order true new files (λ _. free-keyed (λ (file : Staged). file.path) new files free) rising)

module _ (grace now : ℕ) (s : State) where
  abbrev Rises : Session → Type 0
  Rises one = IsStrictlySortedBy staged_cmp one.staged

  fewer : (n : ℕ) (path : List ℕ) → StagedByPath s → AllByRecursion Rises (change_first (is_open_at n) (without_staged path) s.sessions)
  fewer n path old = all-change_first Rises (is_open_at n) (without_staged path) (λ x rising. filter-ordered staged_cmp staged-order (λ file. not (is_staged path file)) x.staged rising) s.sessions old

  pub staged-kept : (e : Effect) → May grace now s e → StagedByPath s → StagedByPath (with_effect s e)
  staged-kept (stages n path blob) may old =
      let (one, found, _, free, _) = may in
      let new : Staged = record { path = path; blob = blob } in
      first-keeps Rises (is_open_at n) (λ session. record session { staged = with_staged new session.staged }) s.sessions one old found
      (with_staged-ordered new one.staged free (found-has Rises (is_open_at n) s.sessions one old found))
  staged-kept (delivers n repo path blob moment) may old = fewer n path old
  staged-kept (discards n path draft) may old = fewer n path old
  staged-kept (opens n repo) may old = all-push Rises s.sessions (new_session n repo) old (none-rise staged_cmp)
  staged-kept (ends n result) may old = all-change_first Rises (is_open_at n) (λ session. record session { ended = Some result }) (λ x rising. rising) s.sessions old
  staged-kept e may old = old

module _ (settings : Settings) (apart : AreNamedApart settings.hosted) where
  staged-entry : (s : State) (e : Entry) → Fits settings s e → Sound settings s → StagedByPath s → StagedByPath (after settings s e)
  staged-entry s e fits sound old = entry-keeps settings apart s e StagedByPath fits sound (λ t f _ may rising. staged-kept settings.grace e.moment t f may rising) old

  pub staged-last : (entries : List Entry) (s : State) → Sound settings s → StagedByPath s → Legal settings s entries → StagedByPath (end settings s entries)
  staged-last [] s sound old legal = old
  staged-last (e ∷ entries) s sound old legal = staged-last entries (after settings s e) (sound-entry settings apart s e legal.0 sound) (staged-entry s e legal.0 sound old) legal.1

-- the paths of the items of a commit
module _ (repo : List ℕ) (now : ℕ) (rows : List Row) where
  abbrev paths : List Staged → List (List ℕ)
  paths files = row_paths (flat_map (λ (file : Staged). item_at repo now file (row_at file.path rows)) files)

  -- a file gives its path or none
  paths-cons : (P : List (List ℕ) → Type 0) (file : Staged) (files : List Staged) → P (paths files) → P (file.path ∷ paths files) → P (paths (file ∷ files))
  paths-cons P file files none one =
      elim (row_at file.path rows) as (λ found. P (row_paths (item_at repo now file found ++ flat_map (λ (f : Staged). item_at repo now f (row_at f.path rows)) files))) [
        | None ↦ one
        | (Some row) ↦ elim row.phase as (λ phase. P (row_paths (item_again repo now file.path phase ++ flat_map (λ (f : Staged). item_at repo now f (row_at f.path rows)) files))) [
          | listed ↦ none
          | (fading since) ↦ one
        ]
      ]

  paths-above : (path : List ℕ) (files : List Staged) → AllByRecursion (λ (file : Staged). path_cmp path file.path ≡ Less) files → AllByRecursion (λ other. path_cmp path other ≡ Less) (paths files)
  paths-above path [] all = tt
  paths-above path (file ∷ files) all =
      let rest = paths-above path files all.1 in
      paths-cons (λ list. AllByRecursion (λ other. path_cmp path other ≡ Less) list) file files rest (all.0, rest)

  paths-rise : (files : List Staged) → IsStrictlySortedBy staged_cmp files → IsStrictlySortedBy path_cmp (paths files)
  unfolding IsStrictlySortedBy
  paths-rise [] rising = tt
  paths-rise (file ∷ files) rising =
      let rest = paths-rise files rising.1 in
      paths-cons (IsStrictlySortedBy path_cmp) file files rest (paths-above file.path files rising.0, rest)

module _ (settings : Settings) (s : State) (now : ℕ) where
  commit-case : (n : ℕ) (c : Command) (t : Turn) → Case settings s now c t → c ≡ commit n → StagedByPath s → IsStrictlySortedBy path_cmp (row_paths (recorded t.effects))
  commit-case n c t (deploys m one known going) is old =
      let rising = found-has (λ (x : Session). IsStrictlySortedBy staged_cmp x.staged) (is_session m) s.sessions one old known in
      subst (λ items. IsStrictlySortedBy path_cmp (row_paths items)) (sym (deploy-items one now (rows_of one.repo s) (Done (length one.staged))))
      (subst (IsStrictlySortedBy path_cmp) (sym (flat_map-append row_path (flat_map (λ (file : Staged). item_at one.repo now file (row_at file.path (rows_of one.repo s))) one.staged) _ ∙ append-nil _))
      (paths-rise one.repo now (rows_of one.repo s) one.staged rising))
  commit-case n c t (makes_row repo path m blob among free) is old = cc
  commit-case n c t (lists_again repo path m blob among row since found phase_is) is old = cc
  commit-case n c t (opens_one repo more few) is old = cc
  commit-case n c t (aborts m one known going) is old = cc
  commit-case n c t (unlists repo h found) is old = cc
  commit-case n c t collects is old = cc
  commit-case n c t (lands_one plan outcome drawn) is old = cc
  commit-case n c t case is old = none-rise path_cmp

  pub commit-rises : (n : ℕ) → StagedByPath s → IsStrictlySortedBy path_cmp (row_paths (recorded (turn settings s now (commit n)).effects))
  commit-rises n old = commit-case n (commit n) (turn settings s now (commit n)) (turn-case settings s now (commit n)) refl old

-- no file before the one that offends does so
pub first-offends : (rows : List Row) (files : List Staged) (other : Offence) → IsStrictlySortedBy staged_cmp files → offence rows files ≡ Some other
    → AllByRecursion (λ (file : Staged). path_cmp file.path other.path ≡ Less → offence_at file (row_at file.path rows) ≡ None) files
unfolding IsStrictlySortedBy
first-offends rows [] other rising is = tt
first-offends rows (file ∷ files) other rising is =
    elim (offence_at file (row_at file.path rows))
    as (λ here. offence_at file (row_at file.path rows) ≡ here → or_else here (offence rows files) ≡ Some other → AllByRecursion (λ (f : Staged). path_cmp f.path other.path ≡ Less → offence_at f (row_at f.path rows) ≡ None) (file ∷ files)) [
      | None ↦ λ none later. ((λ _. none), first-offends rows files other rising.1 later)
      | (Some found) ↦ λ here same.
          let found_is : found ≡ other = cc in
          let at_path : file.path ≡ other.path = path-of (row_at file.path rows) here ∙ ap (λ (o : Offence). o.path) found_is in (
            (λ below. absurd (not-below file.path file.path (tied_itself paths-order file.path) (subst (λ p. path_cmp file.path p ≡ Less) (sym at_path) below))),
            all-above files rising.0 at_path,
          )
    ] refl is where
      path-of : (found : Option Row) {o : Offence} → offence_at file found ≡ Some o → file.path ≡ o.path
      path-of None {o} none = absurd (none-some o none)
      path-of (Some row) {o} some =
          elim (is_same_print row.blob.print file.blob.print)
          as (λ b. (if b then None else Some (record { path = file.path; kept = row.blob.print; sent = file.blob.print })) ≡ Some o → file.path ≡ o.path) [
            | true ↦ λ none. absurd (none-some o none)
            | false ↦ λ it. let o_is : record { path = file.path; kept = row.blob.print; sent = file.blob.print } ≡ o = cc in ap (λ (x : Offence). x.path) o_is
          ] some

      not-below : (a b : List ℕ) → path_cmp a b ≡ Equal → path_cmp a b ≡ Less → ⊥
      not-below a b same less = let wrong : Equal ≡ Less = sym same ∙ less in cc

      not-both : (a b : List ℕ) → path_cmp a b ≡ Less → path_cmp b a ≡ Less → ⊥
      not-both a b less more = let wrong : Less ≡ Greater = sym less ∙ paths-order.antisymm a b ∙ ap ordering_reverse more in cc

      all-above : (list : List Staged) → AllByRecursion (λ (f : Staged). staged_cmp file f ≡ Less) list → file.path ≡ other.path
          → AllByRecursion (λ (f : Staged). path_cmp f.path other.path ≡ Less → offence_at f (row_at f.path rows) ≡ None) list
      all-above list all at_path =
          all-then (λ (f : Staged). staged_cmp file f ≡ Less) (λ (f : Staged). path_cmp f.path other.path ≡ Less → offence_at f (row_at f.path rows) ≡ None)
          (λ f above below. absurd (not-both f.path file.path (subst (λ p. path_cmp f.path p ≡ Less) (sym at_path) below) above)) list all
