-- What one more visible row adds to the document of its directory, wherever it stands among the others.
use Rattle.std.proofs.Common.{◌≡◌, ℕ, Bool, true, false, cond, ◌&&◌, List, [], ◌∷◌, ◌++◌, fold, refl, sym, ap, ◌∙◌, subst, Option, Some, None, unwrap_or, is_eq, bytes_eq}
use Rattle.std.proofs.lemmas.Bool.{and_parts}
use Rattle.std.proofs.lemmas.Option.{none-some}
use Rattle.std.proofs.lemmas.Slice.Eq.{bytes_eq-Decides}
use Rattle.std.specs.Prelude.{is_some}
use Rattle.std.specs.BTreeSet.{insert_key}
use Rattle.std.specs.Cmp.{IsTotalOrder}
use Rattle.std.specs.Cmp.Lexicographic.{slice_cmp}
use Rattle.std.specs.FinMap.{nat_cmp-IsAntisymmetric}
use Rattle.std.specs.FinMap.Entries.{is_sorted}
use Rattle.std.specs.List.{AllByRecursion}
use Rattle.std.specs.Ordering.{match_ordering, nat_cmp, ordering_reverse, ordering_then, is_lt}
use Rattle.std.specs.declared.cmp.Ordering.{Ordering}
use Rattle.std.specs.declared.cmp.Ordering.TheVariants.{Less, Equal, Greater}
use Rattle.mvn_coords.specs.Calendar.{civil_of}
use Rattle.mvn_coords.specs.Civil.{CivilTime}
use Rattle.mvn_coords.specs.FileName.{BuildOf, base_of}
use Rattle.mvn_coords.specs.Layout.{Coordinates, Directory}
use Rattle.mvn_version.specs.Laws.{list_cmp_total, list_cmp_ties}
use Rattle.mvn_version.specs.Order.{list_cmp}
use Rattle.mvn_metadata.specs.declared.listing.Listing.{Listing}
use Rattle.mvn_metadata.specs.declared.listing.Listing.TheVariants.{Artifact, Snapshot}
use Rattle.mvn_metadata.specs.Document.{Document, blank, greatest, latest_time, of_kind, settled}
use Rattle.mvn_metadata.specs.Form.{is_rising}
use Rattle.mvn_metadata.specs.Merge.{Entry, is_newer, with_entries, with_entry, with_versions}
use Rattle.mvn_metadata.specs.Order.{build_cmp, build_cmp_total, pair_cmp, pair_cmp_total, time_cmp, time_cmp_total}
use Rattle.mvn_metadata.proofs.MergeLaws.{greatest-greatest, with_entries_assoc, with_versions_assoc}
use Rattle.mvn_metadata.proofs.MergeLemmas.{is_rising-insert_key, is_sorted-with_entry, pair_cmp_ties}
use Rattle.repo_model.specs.Data.{Row, fading, listed}
use Rattle.repo_model.specs.Document.{described, document, is_listed, listed_in, with_build_of, with_coordinates, with_row}
use Rattle.repo_model.specs.Effect as effect
use Rattle.repo_model.specs.Effect.{list_again, new_row}
use Rattle.repo_model.specs.Paths.{file_at, same_version, stands_in}
use Rattle.repo_model.specs.State.{change_where, is_row, row_at}
use Rattle.directory_rows.specs.Documents.{with_listed}
use Rattle.ordered_rows.proofs.MapLemmas.{same_test}
use Rattle.ordered_rows.proofs.Rising.{AreAfter, AreRising}

-- two values of a total order, the greater of which is kept
module _ {A : Type 0} {cmp : A → A → Ordering} (total : IsTotalOrder cmp) (ties : (a b : A) → cmp a b ≡ Equal → a ≡ b) where
  swap_greatest : (u w : A) → greatest cmp (Some u) (Some w) ≡ greatest cmp (Some w) (Some u)
  swap_greatest u w =
      ap (λ r. Some (cond (is_lt r) w u)) (total.antisymm u w)
      ∙ elim (cmp w u) as (λ r. cmp w u ≡ r → Some (cond (is_lt (ordering_reverse r)) w u) ≡ Some (cond (is_lt r) u w)) [
        | Less ↦ λ is. refl
        | Equal ↦ λ is. ap Some (sym (ties w u is))
        | Greater ↦ λ is. refl
      ] refl

  greatest_commute : (t : Option A) (u w : A) → greatest cmp (greatest cmp t (Some u)) (Some w) ≡ greatest cmp (greatest cmp t (Some w)) (Some u)
  greatest_commute t u w =
      sym (greatest-greatest total t (Some u) (Some w)) ∙ ap (greatest cmp t) (swap_greatest u w) ∙ greatest-greatest total t (Some w) (Some u)

tied : (r s : Ordering) → ordering_then r s ≡ Equal → (r ≡ Equal) × (s ≡ Equal)
tied Less s e = absurd cc
tied Equal s e = (refl, e)
tied Greater s e = absurd cc

time_ties : (t u : CivilTime) → time_cmp t u ≡ Equal → t ≡ u
time_ties t u e =
    let a = tied (nat_cmp t.year u.year) _ e in
    let b = tied (nat_cmp t.month u.month) _ a.1 in
    let c = tied (nat_cmp t.day u.day) _ b.1 in
    let d = tied (nat_cmp t.hour u.hour) _ c.1 in
    let f = tied (nat_cmp t.minute u.minute) (nat_cmp t.second u.second) d.1 in
    λ i. record {
      year = nat_cmp-IsAntisymmetric t.year u.year a.0 i;
      month = nat_cmp-IsAntisymmetric t.month u.month b.0 i;
      day = nat_cmp-IsAntisymmetric t.day u.day c.0 i;
      hour = nat_cmp-IsAntisymmetric t.hour u.hour d.0 i;
      minute = nat_cmp-IsAntisymmetric t.minute u.minute f.0 i;
      second = nat_cmp-IsAntisymmetric t.second u.second f.1 i;
    }

build_ties : (b c : BuildOf) → build_cmp b c ≡ Equal → b ≡ c
build_ties b c e =
    let a = tied (time_cmp b.stamp c.stamp) (nat_cmp b.number c.number) e in
    λ i. record { stamp = time_ties b.stamp c.stamp a.0 i; number = nat_cmp-IsAntisymmetric b.number c.number a.1 i }

-- two versions
swap_two : (x y : List ℕ) → insert_key list_cmp (x ∷ []) y ≡ insert_key list_cmp (y ∷ []) x
swap_two x y =
    rw (list_cmp_total.antisymm x y)
    (elim (list_cmp y x) as (λ r. list_cmp y x ≡ r → match_ordering r (y ∷ x ∷ []) (x ∷ []) (x ∷ y ∷ []) ≡ match_ordering (ordering_reverse r) (x ∷ y ∷ []) (y ∷ []) (y ∷ x ∷ [])) [
      | Less ↦ λ is. refl
      | Equal ↦ λ is. ap (λ z. z ∷ []) (sym (list_cmp_ties y x is))
      | Greater ↦ λ is. refl
    ] refl)

versions_commute : (vs : List (List ℕ)) (x y : List ℕ) → is_rising list_cmp vs ≡ true → insert_key list_cmp (insert_key list_cmp vs x) y ≡ insert_key list_cmp (insert_key list_cmp vs y) x
versions_commute vs x y rising =
    sym (with_versions_assoc vs (x ∷ []) (y ∷ []) rising refl) ∙ ap (with_versions vs) (swap_two x y) ∙ with_versions_assoc vs (y ∷ []) (x ∷ []) rising refl

-- two entries of one base
swap_entries : (e f : Entry) → e.1.base ≡ f.1.base → with_entry (e ∷ []) f ≡ with_entry (f ∷ []) e
swap_entries e f same =
    let L : Ordering → List Entry = λ o. cond (is_newer f.1 (cond (is_eq o) (Some e.1) None)) (match_ordering o (f ∷ e ∷ []) ((e.0, f.1) ∷ []) (e ∷ f ∷ [])) (e ∷ []) in
    let R : Ordering → List Entry = λ o. cond (is_newer e.1 (cond (is_eq o) (Some f.1) None)) (match_ordering o (e ∷ f ∷ []) ((f.0, e.1) ∷ []) (f ∷ e ∷ [])) (f ∷ []) in
    let tie : pair_cmp f.0 e.0 ≡ Equal → L Equal ≡ R Equal = λ is.
    let keys : f.0 ≡ e.0 = pair_cmp_ties f.0 e.0 is in
    ap (λ (r : Ordering). cond (is_lt r) ((e.0, f.1) ∷ []) (e ∷ [])) (build_cmp_total.antisymm e.1.build f.1.build)
    ∙ elim (build_cmp f.1.build e.1.build) as (λ r. build_cmp f.1.build e.1.build ≡ r → cond (is_lt (ordering_reverse r)) ((e.0, f.1) ∷ []) (e ∷ []) ≡ cond (is_lt r) ((f.0, e.1) ∷ []) (f ∷ [])) [
      | Less ↦ λ h. ap (λ k. (k, e.1) ∷ []) (sym keys)
      | Equal ↦ λ h.
          let built : f.1.build ≡ e.1.build = build_ties f.1.build e.1.build h in
          λ i. (sym keys i, record { base = same i; build = sym built i }) ∷ []
      | Greater ↦ λ h. ap (λ k. (k, f.1) ∷ []) (sym keys)
    ] refl in
    elim (pair_cmp f.0 e.0) as (λ o. pair_cmp f.0 e.0 ≡ o → L o ≡ R (ordering_reverse o)) [
      | Less ↦ λ is. refl
      | Equal ↦ tie
      | Greater ↦ λ is. refl
    ] refl
    ∙ sym (ap R (pair_cmp_total.antisymm e.0 f.0))

entries_commute : (es : List Entry) (e f : Entry) → is_sorted pair_cmp es ≡ true → e.1.base ≡ f.1.base → with_entry (with_entry es e) f ≡ with_entry (with_entry es f) e
entries_commute es e f sorted same =
    sym (with_entries_assoc es (e ∷ []) (f ∷ []) sorted refl refl) ∙ ap (with_entries es) (swap_entries e f same) ∙ with_entries_assoc es (f ∷ []) (e ∷ []) sorted refl refl

-- what an artifact lists, and a row
abbrev more_versions : Option Coordinates → List (List ℕ) → List (List ℕ)
more_versions None vs = vs
more_versions (Some c) vs = insert_key list_cmp vs c.directory

abbrev later : Option Coordinates → ℕ → Option CivilTime → Option CivilTime
later None moment t = t
later (Some c) moment t = latest_time t (Some (civil_of moment))

listed_more : (vs : List (List ℕ)) (t : Option CivilTime) (moment : ℕ) (c : Option Coordinates) → with_coordinates moment c (Artifact vs t) ≡ Artifact (more_versions c vs) (later c moment t)
listed_more vs t moment None = refl
listed_more vs t moment (Some c) = by c.build
  where
    by : (build : Option BuildOf) → with_build_of c build (Artifact (insert_key list_cmp vs c.directory) (latest_time t (Some (civil_of moment)))) ≡ Artifact (insert_key list_cmp vs c.directory) (latest_time t (Some (civil_of moment)))
    by None = refl
    by (Some b) = refl

-- what a snapshot directory lists, and a file's build
abbrev entry_of : Coordinates → BuildOf → Entry
entry_of c b = (record { classifier = c.classifier; extension = c.extension }, record { base = unwrap_or (base_of c.directory) []; build = b })

builds_commute : (base : List ℕ) (newest : Option BuildOf) (es : List Entry) (c d : Coordinates) (b e : Option BuildOf) → is_sorted pair_cmp es ≡ true → c.directory ≡ d.directory
    → with_build_of d e (with_build_of c b (Snapshot base newest es)) ≡ with_build_of c b (with_build_of d e (Snapshot base newest es))
builds_commute base newest es c d None None sorted same = refl
builds_commute base newest es c d None (Some e) sorted same = refl
builds_commute base newest es c d (Some b) None sorted same = refl
builds_commute base newest es c d (Some b) (Some e) sorted same =
    λ i. Snapshot base (greatest_commute build_cmp_total build_ties newest b e i)
    (entries_commute es (entry_of c b) (entry_of d e) sorted (ap (λ v. unwrap_or (base_of v) []) same) i)

-- what a directory with this version, if any, lists has its form
abbrev pub IsGood : Option (List ℕ) → Listing → Type 0
IsGood version (Artifact vs t) = is_rising list_cmp vs ≡ true
IsGood version (Snapshot base newest entries) = (is_some version ≡ true) × (is_sorted pair_cmp entries ≡ true)

abbrev pub counts : Directory → Row → Bool
counts d row = is_listed row.phase && stands_in d (file_at row.path)

same_directory : (d : Directory) (c : Coordinates) (version : List ℕ) → d.version ≡ Some version → stands_in d (Some c) ≡ true → version ≡ c.directory
same_directory d c version is there =
    let deep = (and_parts (bytes_eq c.artifact d.artifact) (same_version d.version c.directory) (and_parts (bytes_eq c.group d.group) (bytes_eq c.artifact d.artifact && same_version d.version c.directory) there).1).1 in
    (bytes_eq-Decides version c.directory).0 (sym (ap (λ v. same_version v c.directory) is) ∙ deep)

version_given : (version : Option (List ℕ)) → is_some version ≡ true → (v : List ℕ) × (version ≡ Some v)
version_given None is = absurd cc
version_given (Some v) is = (v, refl)

two_more : (c e : Option Coordinates) (m n : ℕ) (vs : List (List ℕ)) (t : Option CivilTime) → is_rising list_cmp vs ≡ true
    → Artifact (more_versions e (more_versions c vs)) (later e n (later c m t)) ≡ Artifact (more_versions c (more_versions e vs)) (later c m (later e n t))
two_more None e m n vs t rising = refl
two_more (Some c) None m n vs t rising = refl
two_more (Some c) (Some e) m n vs t rising = λ i. Artifact (versions_commute vs c.directory e.directory rising i) (greatest_commute time_cmp_total time_ties t (civil_of m) (civil_of n) i)

abbrev IsSnap : Listing → Type 0
IsSnap (Artifact vs t) = ⊥
IsSnap (Snapshot b k fs) = Unit {0}

snapshot_commute : (d : Directory) (base : List ℕ) (newest : Option BuildOf) (es : List Entry) (m n : ℕ) (c e : Option Coordinates) → is_some d.version ≡ true → is_sorted pair_cmp es ≡ true
    → stands_in d c ≡ true → stands_in d e ≡ true
    → with_coordinates n e (with_coordinates m c (Snapshot base newest es)) ≡ with_coordinates m c (with_coordinates n e (Snapshot base newest es))
snapshot_commute d base newest es m n None e given sorted one two = absurd cc
snapshot_commute d base newest es m n (Some c) None given sorted one two = absurd cc
snapshot_commute d base newest es m n (Some c) (Some e) given sorted one two =
    let (v, is) = version_given d.version given in
    let same : c.directory ≡ e.directory = sym (same_directory d c v is one) ∙ same_directory d e v is two in
    ap (λ (l : Listing). with_coordinates n (Some e) l) (alone c m) ∙ step e n (with_build_of c c.build (Snapshot base newest es)) (snap c c.build)
    ∙ builds_commute base newest es c e c.build e.build sorted same
    ∙ sym (ap (λ (l : Listing). with_coordinates m (Some c) l) (alone e n) ∙ step c m (with_build_of e e.build (Snapshot base newest es)) (snap e e.build))
  where
    snap : (x : Coordinates) (b : Option BuildOf) → IsSnap (with_build_of x b (Snapshot base newest es))
    snap x None = tt
    snap x (Some b) = tt

    alone : (x : Coordinates) (k : ℕ) → with_coordinates k (Some x) (Snapshot base newest es) ≡ with_build_of x x.build (Snapshot base newest es)
    alone x k = refl

    step : (x : Coordinates) (k : ℕ) (l : Listing) → IsSnap l → with_coordinates k (Some x) l ≡ with_build_of x x.build l
    step x k (Artifact vs t) wrong = absurd wrong
    step x k (Snapshot b j fs) is = refl

commute : (d : Directory) (l : Listing) (a b : Row) → IsGood d.version l → counts d a ≡ true → counts d b ≡ true → with_row (with_row l a) b ≡ with_row (with_row l b) a
commute d (Artifact vs t) a b good one two =
    let c = file_at a.path in
    let e = file_at b.path in
    ap (λ (l : Listing). with_row l b) (listed_more vs t a.accepted c) ∙ listed_more (more_versions c vs) (later c a.accepted t) b.accepted e
    ∙ two_more c e a.accepted b.accepted vs t good
    ∙ sym (ap (λ (l : Listing). with_row l a) (listed_more vs t b.accepted e) ∙ listed_more (more_versions e vs) (later e b.accepted t) a.accepted c)
commute d (Snapshot base newest entries) a b good one two =
    snapshot_commute d base newest entries a.accepted b.accepted (file_at a.path) (file_at b.path) good.0 good.1
    (and_parts (is_listed a.phase) (stands_in d (file_at a.path)) one).1 (and_parts (is_listed b.phase) (stands_in d (file_at b.path)) two).1

good_more : (c : Option Coordinates) (vs : List (List ℕ)) → is_rising list_cmp vs ≡ true → is_rising list_cmp (more_versions c vs) ≡ true
good_more None vs rising = rising
good_more (Some c) vs rising = is_rising-insert_key list_cmp_total vs c.directory rising

good_build : (version : Option (List ℕ)) (base : List ℕ) (newest : Option BuildOf) (es : List Entry) (moment : ℕ) (c : Option Coordinates)
    → IsGood version (Snapshot base newest es) → IsGood version (with_coordinates moment c (Snapshot base newest es))
good_build version base newest es moment None good = good
good_build version base newest es moment (Some c) good = by c.build
  where
    by : (build : Option BuildOf) → IsGood version (with_build_of c build (Snapshot base newest es))
    by None = good
    by (Some b) = (good.0, is_sorted-with_entry es (entry_of c b) good.1)

good_row : (version : Option (List ℕ)) (l : Listing) (a : Row) → IsGood version l → IsGood version (with_row l a)
good_row version (Artifact vs t) a good = subst (IsGood version) (sym (listed_more vs t a.accepted (file_at a.path))) (good_more (file_at a.path) vs good)
good_row version (Snapshot base newest entries) a good = good_build version base newest entries a.accepted (file_at a.path) good

abbrev AllCount : Directory → List Row → Type 0
AllCount d rows = AllByRecursion (λ (row : Row). counts d row ≡ true) rows

-- a row that comes first may come last, or anywhere between
moved : (d : Directory) (l : Listing) (new : Row) (rows : List Row) → IsGood d.version l → counts d new ≡ true → AllCount d rows → fold with_row (with_row l new) rows ≡ with_row (fold with_row l rows) new
moved d l new [] good one all = refl
moved d l new (r ∷ rows) good one all = ap (λ (k : Listing). fold with_row k rows) (commute d l new r good one all.0) ∙ moved d (with_row l r) new rows (good_row d.version l r good) one all.1

inserted : (d : Directory) (l : Listing) (new : Row) (front back : List Row) → IsGood d.version l → counts d new ≡ true → AllCount d back
    → fold with_row l (front ++ new ∷ back) ≡ with_row (fold with_row l (front ++ back)) new
inserted d l new [] back good one all = moved d l new back good one all
inserted d l new (r ∷ front) back good one all = inserted d (with_row l r) new front back (good_row d.version l r good) one all

all_counted : (d : Directory) (rows : List Row) → AllCount d (listed_in d rows)
all_counted d [] = tt
all_counted d (r ∷ rows) = elim (counts d r) as (λ b. counts d r ≡ b → AllCount d (cond b (r ∷ listed_in d rows) (listed_in d rows))) [
  | true ↦ λ is. (is, all_counted d rows)
  | false ↦ λ is. all_counted d rows
] refl

back_counted : (d : Directory) (front back : List Row) → AllCount d (front ++ back) → AllCount d back
back_counted d [] back all = all
back_counted d (r ∷ front) back all = back_counted d front back all.1

-- a directory's visible rows are those before, and one more somewhere among them
abbrev pub IsWith : Directory → Row → List Row → List Row → Type 0
IsWith d new rows after = (front : List Row) × (back : List Row) × (listed_in d rows ≡ front ++ back) × (listed_in d after ≡ front ++ new ∷ back)

pub with_one : (d : Directory) (new : Row) → counts d new ≡ true → (rows : List Row) → IsWith d new rows (effect.with_row new rows)
with_one d new is [] = ([], [], refl, ap (λ b. cond b (new ∷ []) []) is)
with_one d new is (r ∷ rows) =
    let first : IsWith d new (r ∷ rows) (new ∷ r ∷ rows) = ([], listed_in d (r ∷ rows), refl, ap (λ b. cond b (new ∷ listed_in d (r ∷ rows)) (listed_in d (r ∷ rows))) is) in
    elim (slice_cmp nat_cmp new.path r.path) as (λ o. IsWith d new (r ∷ rows) (match_ordering o (new ∷ r ∷ rows) (new ∷ r ∷ rows) (r ∷ effect.with_row new rows))) [
      | Less ↦ first
      | Equal ↦ first
      | Greater ↦
          let (front, back, was, now) = with_one d new is rows in
          elim (counts d r) as (λ b. (f : List Row) × (k : List Row) × (cond b (r ∷ listed_in d rows) (listed_in d rows) ≡ f ++ k)
          × (cond b (r ∷ listed_in d (effect.with_row new rows)) (listed_in d (effect.with_row new rows)) ≡ f ++ new ∷ k)) [
            | true ↦ (r ∷ front, back, ap (λ (l : List Row). r ∷ l) was, ap (λ (l : List Row). r ∷ l) now)
            | false ↦ (front, back, was, now)
          ]
    ]

-- no later row has the path of an earlier one
unchanged : (path : List ℕ) (f : Row → Row) (rows : List Row) → AreAfter path rows → change_where (is_row path) f rows ≡ rows
unchanged path f [] after = refl
unchanged path f (r ∷ rows) after =
    ap (λ b. cond b (f r) r ∷ change_where (is_row path) f rows) (sym (same_test path r.path) ∙ ap is_eq after.0) ∙ ap (λ (l : List Row). r ∷ l) (unchanged path f rows after.1)

-- the row at a path is visible again
pub with_again : (d : Directory) (path : List ℕ) (moment since : ℕ) (row : Row) (rows : List Row) → AreRising rows → row_at path rows ≡ Some row → row.phase ≡ fading since
    → counts d (new_row path row.blob moment) ≡ true → IsWith d (new_row path row.blob moment) rows (change_where (is_row path) (list_again moment) rows)
with_again d path moment since row [] rising found fades is = absurd (none-some row found)
with_again d path moment since row (r ∷ rows) rising found fades is =
    let new : Row = new_row path row.blob moment in
    let rest : List Row = change_where (is_row path) (list_again moment) rows in
    elim (is_row path r) as (λ b. is_row path r ≡ b → cond b (Some r) (row_at path rows) ≡ Some row → IsWith d new (r ∷ rows) (cond b (list_again moment r) r ∷ rest)) [
      | true ↦ λ here at.
          let at_path : r.path ≡ path = (bytes_eq-Decides r.path path).0 here in
          let same : r ≡ row = cc in
          let gone : counts d r ≡ false = ap (λ (k : Row). is_listed k.phase && stands_in d (file_at r.path)) same ∙ ap (λ p. is_listed p && stands_in d (file_at r.path)) fades in
          let as_new : list_again moment r ≡ new = λ i. record { path = at_path i; blob = (same i).blob; accepted = moment; phase = listed } in
          let later_same : rest ≡ rows = unchanged path (list_again moment) rows (subst (λ p. AreAfter p rows) at_path rising.0) in (
            [],
            listed_in d rows,
            ap (λ b. cond b (r ∷ listed_in d rows) (listed_in d rows)) gone,
            ap (λ (l : List Row). listed_in d (list_again moment r ∷ l)) later_same
                ∙ ap (λ (k : Row). listed_in d (k ∷ rows)) as_new
                ∙ ap (λ b. cond b (new ∷ listed_in d rows) (listed_in d rows)) is,
          )
      | false ↦ λ there at.
          let (front, back, was, now) = with_again d path moment since row rows rising.1 at fades is in
          elim (counts d r) as (λ b. (f : List Row) × (k : List Row) × (cond b (r ∷ listed_in d rows) (listed_in d rows) ≡ f ++ k) × (cond b (r ∷ listed_in d rest) (listed_in d rest) ≡ f ++ new ∷ k)) [
            | true ↦ (r ∷ front, back, ap (λ (l : List Row). r ∷ l) was, ap (λ (l : List Row). r ∷ l) now)
            | false ↦ (front, back, was, now)
          ]
    ] refl found

described_some : (e : Document) (front back : List Row) (new : Row) → described e (front ++ new ∷ back) ≡ Some (record e { listing = fold with_row e.listing (front ++ new ∷ back) })
described_some e [] back new = refl
described_some e (r ∷ front) back new = refl

described_or : (e : Document) (rows : List Row) → unwrap_or (described e rows) e ≡ record e { listing = fold with_row e.listing rows }
described_or e [] = refl
described_or e (r ∷ rows) = refl

blank_good : (version : Option (List ℕ)) → IsGood version (of_kind version blank.listing)
blank_good None = refl
blank_good (Some v) = (refl, refl)

pub one_more : (d : Directory) (new : Row) (rows after : List Row) → counts d new ≡ true → IsWith d new rows after → document d after ≡ Some (with_listed (unwrap_or (document d rows) (settled blank d)) new)
one_more d new rows after is with =
    let e = settled blank d in
    let (front, back, was, now) = with in
    let behind : AllCount d back = back_counted d front back (subst (AllCount d) was (all_counted d rows)) in
    ap (described e) now
    ∙ described_some e front back new
    ∙ ap (λ (l : Listing). Some (record e { listing = l })) (inserted d e.listing new front back (blank_good d.version) is behind ∙ ap (λ (l : List Row). with_row (fold with_row e.listing l) new) (sym was))
    ∙ sym (ap (λ (doc : Document). Some (with_listed doc new)) (described_or e (listed_in d rows)))
