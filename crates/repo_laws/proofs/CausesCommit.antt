-- Why a commit is refused: the first staged file that offends, and the first release directory without its pom.
use Rattle.std.proofs.Common.{◌≡◌, ◌≢◌, ℕ, Bool, true, false, ◌||◌, ◌⊎◌, inl, inr, List, [], ◌∷◌, ◌++◌, length, Option, Some, None, refl, sym, ◌∙◌, ap, subst}
use Rattle.std.specs.Prelude.{fold, is_some, if◌then◌else◌}
use Rattle.std.specs.List.{AllByRecursion, flat_map}
use Rattle.std.specs.Ordering.{nat_cmp, is_lt, is_gt, ordering_reverse}
use Rattle.std.specs.declared.cmp.Ordering.{Ordering}
use Rattle.std.specs.declared.cmp.Ordering.TheVariants.{Less, Equal, Greater}
use Rattle.std.specs.FinMap.{slice_cmp-IsAntisymmetric, nat_cmp-IsAntisymmetric}
use Rattle.std.specs.Cmp.Lexicographic.{slice_cmp, nat_list_cmp_total}
use Rattle.std.proofs.lemmas.Bool.{false≢true, or_parts}
use Rattle.std.proofs.lemmas.Option.{none-some}
use Rattle.std.proofs.lemmas.Cmp.{upto, tied_itself}
use Rattle.mvn_coords.specs.FileName.{BuildOf}
use Rattle.mvn_coords.specs.Layout.{Coordinates, version_directory_of}
use Rattle.repo_model.specs.declared.print.Print.{Print}
use Rattle.repo_model.specs.declared.session.SessionResult.{SessionResult}
use Rattle.repo_model.specs.declared.session.SessionResult.TheVariants.{Aborted, Done}
use Rattle.repo_model.specs.Data.{Row, Staged, Session, is_same_print}
use Rattle.repo_model.specs.Paths.{file_at}
use Rattle.repo_model.specs.State.{State, row_at, rows_of, session_of}
use Rattle.repo_model.specs.Deploy.{Offence, offence_at, offence, or_else, pom_of, has_pom, bare_directory, least, without_pom}
use Rattle.repo_model.specs.Reply.{Reply, no_session, offends, missing_pom, ended}
use Rattle.repo_model.specs.Turn.{Turn, with_open, commit_by, commit_of, abort_of}
use Rattle.repo_laws.specs.Laws.{AnyByRecursion}
use Rattle.repo_laws.specs.Causes.{OffendsNot, IsFirstOffence, LacksPom, IsFirstWithoutPom, CommitRefused, AbortRefused}
use Rattle.repo_laws.specs.Replies.{is_refusal}
use Rattle.repo_laws.proofs.Prints.{prints-compare}
use Rattle.repo_laws.proofs.Anyone.{any-then, any-flat, flat-any, all-any, all-by}
use Rattle.repo_laws.proofs.CausesPut.{no-refusal, prints-differ, differ-prints}

abbrev pub offence_so : Staged → Row → Offence
offence_so file row = record { path = file.path; kept = row.blob.print; sent = file.blob.print }

module _ (rows : List Row) where
  -- what a file comes to
  pub offends-not : (file : Staged) (found : Option Row) → row_at file.path rows ≡ found → offence_at file found ≡ None → OffendsNot rows file
  offends-not file None there is row found = absurd (none-some row (sym there ∙ found))
  offends-not file (Some r) there is row found =
      elim (is_same_print r.blob.print file.blob.print)
      as (λ b. is_same_print r.blob.print file.blob.print ≡ b → (if b then None else Some (offence_so file r)) ≡ None → row.blob.print ≡ file.blob.print) [
        | true ↦ λ same _. let one : Some r ≡ Some row = sym there ∙ found in let r_is : r ≡ row = cc in ap (λ (x : Row). x.blob.print) (sym r_is) ∙ (prints-compare r.blob.print file.blob.print).0 same
        | false ↦ λ _ e. absurd (none-some (offence_so file r) (sym e))
      ] refl is

  pub not-offends : (file : Staged) (found : Option Row) → row_at file.path rows ≡ found → OffendsNot rows file → offence_at file found ≡ None
  not-offends file None there so = refl
  not-offends file (Some r) there so =
      ap (λ b. if b then None else Some (offence_so file r)) ((prints-compare r.blob.print file.blob.print).1 (so r there))

  -- all do not offend exactly where there is no offence
  pub none-offends : (files : List Staged) → offence rows files ≡ None → AllByRecursion (OffendsNot rows) files
  none-offends [] is = tt
  none-offends (file ∷ files) is =
      elim (offence_at file (row_at file.path rows))
      as (λ here. offence_at file (row_at file.path rows) ≡ here → or_else here (offence rows files) ≡ None → AllByRecursion (OffendsNot rows) (file ∷ files)) [
        | None ↦ λ here e. (offends-not file (row_at file.path rows) refl here, none-offends files e)
        | (Some other) ↦ λ here e. absurd (none-some other (sym e))
      ] refl is

  pub offends-none : (files : List Staged) → AllByRecursion (OffendsNot rows) files → offence rows files ≡ None
  offends-none [] all = refl
  offends-none (file ∷ files) all =
      ap (λ here. or_else here (offence rows files)) (not-offends file (row_at file.path rows) refl all.0) ∙ offends-none files all.1

  abbrev First : List Staged → Offence → Type 0
  First files other = IsFirstOffence rows files other.path other.kept other.sent

  -- the first that offends
  pub first-offence : (files : List Staged) (other : Offence) → offence rows files ≡ Some other → First files other
  first-offence [] other is = absurd (none-some other is)
  first-offence (file ∷ files) other is =
      elim (offence_at file (row_at file.path rows))
      as (λ here. offence_at file (row_at file.path rows) ≡ here → or_else here (offence rows files) ≡ Some other → First (file ∷ files) other) [
        | None ↦ λ here e.
            let (before, first, later, row, parts, quiet, off, at, kept, sent) = first-offence files other e in
            (file ∷ before, first, later, row, ap (λ fs. file ∷ fs) parts, (offends-not file (row_at file.path rows) refl here, quiet), off, at, kept, sent)
        | (Some first) ↦ λ here e. let same : first ≡ other = cc in subst (First (file ∷ files)) same (begins (row_at file.path rows) refl here)
      ] refl is where
        begins : {first : Offence} → (found : Option Row) → row_at file.path rows ≡ found → offence_at file found ≡ Some first → First (file ∷ files) first
        begins {first} None there is = absurd (none-some first is)
        begins {first} (Some row) there is =
            elim (is_same_print row.blob.print file.blob.print)
            as (λ b. is_same_print row.blob.print file.blob.print ≡ b → (if b then None else Some (offence_so file row)) ≡ Some first → First (file ∷ files) first) [
              | true ↦ λ _ e. absurd (none-some first e)
              | false ↦ λ other e.
                  let same : offence_so file row ≡ first = cc in
                  subst (First (file ∷ files)) same ([], file, files, row, refl, tt, (there, differ-prints row.blob.print file.blob.print other), refl, refl, refl)
            ] refl is

  offence-parts : (a b : List ℕ) (k l m n : Print) → a ≡ b → k ≡ l → m ≡ n →
      let first : Offence = record { path = a; kept = k; sent = m } in let second : Offence = record { path = b; kept = l; sent = n } in first ≡ second
  offence-parts a b k l m n one two three = cc

  after-quiet : (before rest : List Staged) → AllByRecursion (OffendsNot rows) before → offence rows (before ++ rest) ≡ offence rows rest
  after-quiet [] rest all = refl
  after-quiet (file ∷ before) rest all =
      ap (λ here. or_else here (offence rows (before ++ rest))) (not-offends file (row_at file.path rows) refl all.0) ∙ after-quiet before rest all.1

  pub offence-first : (files : List Staged) (path : List ℕ) (kept sent : Print) → IsFirstOffence rows files path kept sent → offence rows files ≡ Some (record { path = path; kept = kept; sent = sent })
  offence-first files path kept sent (before, file, later, row, parts, quiet, (found, other), at, kept_is, sent_is) =
      ap (offence rows) parts
      ∙ after-quiet before (file ∷ later) quiet
      ∙ ap (λ f. or_else (offence_at file f) (offence rows later)) found
      ∙ ap (λ b. or_else (if b then None else Some (offence_so file row)) (offence rows later)) (prints-differ row.blob.print file.blob.print other)
      ∙ ap Some (offence-parts file.path path row.blob.print kept file.blob.print sent at kept_is sent_is)

-- the order of texts
abbrev cmp : List ℕ → List ℕ → Ordering
cmp a b = slice_cmp nat_cmp a b

-- the first is not above the second
abbrev IsUpTo : List ℕ → List ℕ → Type 0
IsUpTo a b = is_gt (cmp a b) ≡ false

up-to-itself : (a : List ℕ) → IsUpTo a a
up-to-itself a = ap is_gt (tied_itself nat_list_cmp_total a)

up-to-not-less : (a b : List ℕ) → IsUpTo a b → cmp b a ≢ Less
up-to-not-less a b up less = false≢true (sym up ∙ ap is_gt (nat_list_cmp_total.antisymm a b ∙ ap ordering_reverse less))

not-less-up-to : (a b : List ℕ) → cmp b a ≢ Less → IsUpTo a b
not-less-up-to a b other =
    ap is_gt (nat_list_cmp_total.antisymm a b)
    ∙ elim (cmp b a) as (λ x. cmp b a ≡ x → is_gt (ordering_reverse x) ≡ false) [ Less ↦ λ is. absurd (other is) | Equal ↦ λ is. refl | Greater ↦ λ is. refl ] refl

up-to-both : (a b : List ℕ) → IsUpTo a b → IsUpTo b a → a ≡ b
up-to-both a b one other =
    slice_cmp-IsAntisymmetric nat_cmp-IsAntisymmetric a b
    (elim (cmp a b) as (λ x. cmp a b ≡ x → x ≡ Equal) [
      | Less ↦ λ is. absurd (false≢true (sym other ∙ ap is_gt (nat_list_cmp_total.antisymm b a ∙ ap ordering_reverse is)))
      | Equal ↦ λ is. refl
      | Greater ↦ λ is. absurd (false≢true (sym one ∙ ap is_gt is))
    ] refl)

abbrev Among : List ℕ → List (List ℕ) → Type 0
Among text texts = AnyByRecursion (λ (other : List ℕ). other ≡ text) texts

abbrev IsLeast : List ℕ → List (List ℕ) → Type 0
IsLeast text texts = AllByRecursion (IsUpTo text) texts

abbrev lesser : List ℕ → List ℕ → List ℕ
lesser text best = if is_lt (cmp text best) then text else best

lesser-up : (text best : List ℕ) → IsUpTo (lesser text best) text × IsUpTo (lesser text best) best
lesser-up text best =
    elim (cmp text best)
    as (λ x. cmp text best ≡ x → IsUpTo (if is_lt x then text else best) text × IsUpTo (if is_lt x then text else best) best) [
      | Less ↦ λ is. (up-to-itself text, ap is_gt is)
      | Equal ↦ λ is. (not-less-up-to best text (λ less. let e : Equal ≡ Less = sym is ∙ less in cc), up-to-itself best)
      | Greater ↦ λ is. (not-less-up-to best text (λ less. let e : Greater ≡ Less = sym is ∙ less in cc), up-to-itself best)
    ] refl

lesser-one : (text best : List ℕ) → (lesser text best ≡ text) ⊎ (lesser text best ≡ best)
lesser-one text best =
    elim (is_lt (cmp text best)) as (λ b. ((if b then text else best) ≡ text) ⊎ ((if b then text else best) ≡ best)) [ true ↦ inl refl | false ↦ inr refl ]

-- the least of a text and some others
abbrev HasLeast : List ℕ → List (List ℕ) → Type 0
HasLeast best texts = (m : List ℕ) × (fold least (Some best) texts ≡ Some m) × Among m (best ∷ texts) × IsLeast m (best ∷ texts)

pub has-least : (texts : List (List ℕ)) (best : List ℕ) → HasLeast best texts
has-least [] best = (best, refl, inl refl, (up-to-itself best, tt))
has-least (text ∷ texts) best =
    let (m, is, among, below) = has-least texts (lesser text best) in
    let (up_text, up_best) = lesser-up text best in (
      m,
      is,
      by_one m among,
      (upto nat_list_cmp_total m (lesser text best) best below.0 up_best, (upto nat_list_cmp_total m (lesser text best) text below.0 up_text, below.1)),
    ) where
      by_one : (m : List ℕ) → Among m (lesser text best ∷ texts) → Among m (best ∷ text ∷ texts)
      by_one m (inr later) = inr (inr later)
      by_one m (inl here) =
          elim (lesser-one text best) as (λ _. Among m (best ∷ text ∷ texts)) [ (inl one) ↦ inr (inl (sym one ∙ here)) | (inr other) ↦ inl (sym other ∙ here) ]

least-so : (texts : List (List ℕ)) (m : List ℕ) → fold least None texts ≡ Some m → Among m texts × IsLeast m texts
least-so [] m is = absurd (none-some m is)
least-so (text ∷ texts) m is =
    let (k, k_is, among, below) = has-least texts text in
    let both : Some k ≡ Some m = sym k_is ∙ is in
    let same : k ≡ m = cc in
    subst (λ (x : List ℕ). Among x (text ∷ texts) × IsLeast x (text ∷ texts)) same (among, below)

so-least : (texts : List (List ℕ)) (m : List ℕ) → Among m texts → IsLeast m texts → fold least None texts ≡ Some m
so-least [] m among below = absurd among
so-least (text ∷ texts) m among below =
    let (k, k_is, among_k, below_k) = has-least texts text in
    let up = all-any (IsUpTo m) (λ (x : List ℕ). x ≡ k) (IsUpTo m k) (λ x u same. subst (IsUpTo m) same u) (text ∷ texts) below among_k in
    let down = all-any (IsUpTo k) (λ (x : List ℕ). x ≡ m) (IsUpTo k m) (λ x u same. subst (IsUpTo k) same u) (text ∷ texts) below_k among in
    k_is ∙ ap Some (up-to-both k m down up)

-- release directories without their poms
module _ (rows : List Row) (files : List Staged) where
  abbrev pub Bare : List ℕ → Option Coordinates → Type 0
  Bare directory found = (c : Coordinates) × (found ≡ Some c) × (c.build ≡ None) × (version_directory_of c ≡ directory) × (has_pom rows files (pom_of c) ≡ false)

  abbrev pub bare : Staged → List (List ℕ)
  bare file = bare_directory rows files (file_at file.path)

  no-build : (build : Option BuildOf) → is_some build ≡ false → build ≡ None
  no-build None is = refl
  no-build (Some b) is = absurd (false≢true (sym is))

  is-bare : (directory : List ℕ) (found : Option Coordinates) → Among directory (bare_directory rows files found) → Bare directory found
  is-bare directory None among = absurd among
  is-bare directory (Some c) among =
      elim (is_some c.build || has_pom rows files (pom_of c))
      as (λ b. (is_some c.build || has_pom rows files (pom_of c)) ≡ b → Among directory (if b then [] else version_directory_of c ∷ []) → Bare directory (Some c)) [
        | true ↦ λ _ none. absurd none
        | false ↦ λ is there.
            let (built, pom) = or_parts (is_some c.build) (has_pom rows files (pom_of c)) is in
            (c, refl, no-build c.build built, only directory (version_directory_of c) there, pom)
      ] refl among where
        only : (m d : List ℕ) → Among m (d ∷ []) → d ≡ m
        only m d (inl here) = here
        only m d (inr later) = absurd later

  bare-is : (directory : List ℕ) (found : Option Coordinates) → Bare directory found → Among directory (bare_directory rows files found)
  bare-is directory found (c, is, build, at, pom) =
      subst (λ (f : Option Coordinates). Among directory (bare_directory rows files f)) (sym is)
      (subst (λ (b : Bool). Among directory (if b then [] else version_directory_of c ∷ [])) (sym (ap (λ b. b || has_pom rows files (pom_of c)) (ap is_some build) ∙ pom)) (inl at))

  lacks-so : (directory : List ℕ) → Among directory (flat_map bare files) → LacksPom rows files directory
  lacks-so directory among =
      any-then (λ (f : Staged). Among directory (bare f)) (λ (f : Staged). Bare directory (file_at f.path)) (λ f. is-bare directory (file_at f.path)) files
      (any-flat (λ (other : List ℕ). other ≡ directory) bare files among)

  pub so-lacks : (directory : List ℕ) → LacksPom rows files directory → Among directory (flat_map bare files)
  so-lacks directory lacks =
      flat-any (λ (other : List ℕ). other ≡ directory) bare files
      (any-then (λ (f : Staged). Bare directory (file_at f.path)) (λ (f : Staged). Among directory (bare f)) (λ f. bare-is directory (file_at f.path)) files lacks)

  pub first-without : (directory : List ℕ) → without_pom rows files ≡ Some directory → IsFirstWithoutPom rows files directory
  first-without directory is =
      let (among, below) = least-so (flat_map bare files) directory is in (
        lacks-so directory among,
        λ other lacks. up-to-not-less directory other
            (all-any (IsUpTo directory) (λ (x : List ℕ). x ≡ other) (IsUpTo directory other) (λ x u same. subst (IsUpTo directory) same u) (flat_map bare files) below (so-lacks other lacks)),
      )

  pub without-first : (directory : List ℕ) → IsFirstWithoutPom rows files directory → without_pom rows files ≡ Some directory
  without-first directory (lacks, below) =
      so-least (flat_map bare files) directory (so-lacks directory lacks)
      (all-by (IsUpTo directory) (flat_map bare files) (λ other among. not-less-up-to directory other (below other (lacks-so other among))))

-- a commit
module _ (s : State) (now n : ℕ) where
  abbrev commits : Option Session → Turn
  commits found = with_open found (λ known. commit_of known now (rows_of known.repo s) known.ended)

  commit_by-caused : (r : Reply) → is_refusal r ≡ true → (one : Session) → session_of n s ≡ Some one → one.ended ≡ None
      → (other : Option Offence) → offence (rows_of one.repo s) one.staged ≡ other → (pom : Option (List ℕ)) → without_pom (rows_of one.repo s) one.staged ≡ pom
      → (commit_by one now (rows_of one.repo s) other pom).reply ≡ r → CommitRefused s n r
  commit_by-caused r refused one there up (Some other) first pom without is =
      subst (CommitRefused s n) is (one, there, up, first-offence (rows_of one.repo s) one.staged other first)
  commit_by-caused r refused one there up None first (Some directory) without is =
      subst (CommitRefused s n) is (one, there, up, none-offends (rows_of one.repo s) one.staged first, first-without (rows_of one.repo s) one.staged directory without)
  commit_by-caused r refused one there up None first None without is = absurd (no-refusal (ended (Done (length one.staged))) r refl is refused)

  commit_of-caused : (r : Reply) → is_refusal r ≡ true → (one : Session) → session_of n s ≡ Some one → (result : Option SessionResult) → one.ended ≡ result
      → (commit_of one now (rows_of one.repo s) result).reply ≡ r → CommitRefused s n r
  commit_of-caused r refused one there (Some result) over is = absurd (no-refusal (ended result) r refl is refused)
  commit_of-caused r refused one there None up is =
      commit_by-caused r refused one there up (offence (rows_of one.repo s) one.staged) refl (without_pom (rows_of one.repo s) one.staged) refl is

  pub commit-caused : (r : Reply) → is_refusal r ≡ true → (found : Option Session) → session_of n s ≡ found → (commits found).reply ≡ r → CommitRefused s n r
  commit-caused r refused None there is = subst (CommitRefused s n) is there
  commit-caused r refused (Some one) there is = commit_of-caused r refused one there one.ended refl is

  found-open : (one : Session) → session_of n s ≡ Some one → one.ended ≡ None
      → (commits (session_of n s)).reply ≡ (commit_by one now (rows_of one.repo s) (offence (rows_of one.repo s) one.staged) (without_pom (rows_of one.repo s) one.staged)).reply
  found-open one there up = ap (λ f. (commits f).reply) there ∙ ap (λ result. (commit_of one now (rows_of one.repo s) result).reply) up

  pub commit-refused : (r : Reply) → CommitRefused s n r → (commits (session_of n s)).reply ≡ r
  commit-refused no_session none = ap (λ f. (commits f).reply) none
  commit-refused (offends path kept sent) (one, there, up, first) =
      found-open one there up
      ∙ ap (λ other. (commit_by one now (rows_of one.repo s) other (without_pom (rows_of one.repo s) one.staged)).reply) (offence-first (rows_of one.repo s) one.staged path kept sent first)
  commit-refused (missing_pom directory) (one, there, up, quiet, first) =
      found-open one there up
      ∙ ap (λ other. (commit_by one now (rows_of one.repo s) other (without_pom (rows_of one.repo s) one.staged)).reply) (offends-none (rows_of one.repo s) one.staged quiet)
      ∙ ap (λ pom. (commit_by one now (rows_of one.repo s) None pom).reply) (without-first (rows_of one.repo s) one.staged directory first)
  commit-refused r cause = absurd cause

  abbrev gives_up : Option Session → Turn
  gives_up found = with_open found (λ known. abort_of known known.ended)

  abort_of-caused : (r : Reply) → is_refusal r ≡ true → (one : Session) (result : Option SessionResult) → (abort_of one result).reply ≡ r → AbortRefused s n r
  abort_of-caused r refused one (Some result) is = absurd (no-refusal (ended result) r refl is refused)
  abort_of-caused r refused one None is = absurd (no-refusal (ended Aborted) r refl is refused)

  pub abort-caused : (r : Reply) → is_refusal r ≡ true → (found : Option Session) → session_of n s ≡ found → (gives_up found).reply ≡ r → AbortRefused s n r
  abort-caused r refused None there is = subst (AbortRefused s n) is there
  abort-caused r refused (Some one) there is = abort_of-caused r refused one one.ended is

  pub abort-refused : (r : Reply) → AbortRefused s n r → (gives_up (session_of n s)).reply ≡ r
  abort-refused no_session none = ap (λ f. (gives_up f).reply) none
  abort-refused r cause = absurd cause
