-- What a document says: the versions and times of an artifact, the builds of a snapshot directory.
use Rattle.std.proofs.Common.{◌≡◌, ◌⊎◌, inl, inr, ℕ, true, false, List, [], ◌∷◌, Option, Some, None, refl, sym, ◌∙◌, ap, subst}
use Rattle.std.specs.Prelude.{fold, unwrap_or, if◌then◌else◌}
use Rattle.std.specs.BTreeSet.{insert_key}
use Rattle.std.specs.Cmp.{IsTotalOrder}
use Rattle.std.specs.List.{AllByRecursion}
use Rattle.std.specs.Ordering.{is_lt, is_gt, match_ordering, ordering_reverse}
use Rattle.std.specs.declared.cmp.Ordering.{Ordering}
use Rattle.std.specs.declared.cmp.Ordering.TheVariants.{Less, Equal, Greater}
use Rattle.std.proofs.lemmas.Cmp.{upto, tied_itself}
use Rattle.mvn_coords.specs.Calendar.{civil_of}
use Rattle.mvn_coords.specs.Civil.{CivilTime}
use Rattle.mvn_coords.specs.FileName.{BuildOf, base_of}
use Rattle.mvn_coords.specs.Layout.{Coordinates}
use Rattle.mvn_version.specs.Laws.{list_cmp_total, list_cmp_ties}
use Rattle.mvn_version.specs.Order.{list_cmp}
use Rattle.mvn_metadata.specs.declared.listing.Listing.{Listing}
use Rattle.mvn_metadata.specs.declared.listing.Listing.TheVariants.{Artifact, Snapshot}
use Rattle.mvn_metadata.specs.Document.{latest_time, newest_build}
use Rattle.mvn_metadata.specs.Form.{is_rising}
use Rattle.mvn_metadata.specs.Merge.{Entry, with_entry}
use Rattle.mvn_metadata.specs.Order.{build_cmp, build_cmp_total, time_cmp, time_cmp_total}
use Rattle.mvn_metadata.proofs.MergeLemmas.{is_rising-insert_key}
use Rattle.repo_model.specs.Data.{Row}
use Rattle.repo_model.specs.Paths.{file_at}
use Rattle.repo_model.specs.Document.{with_row, with_coordinates, with_build_of}
use Rattle.repo_laws.specs.Laws.{AnyByRecursion}
use Rattle.repo_laws.specs.Described.{IsAmong, IsIn, IsLatest, IsOfBuild}

-- ---- versions
among-insert : (versions : List (List ℕ)) (v w : List ℕ) → IsAmong w (insert_key list_cmp versions v) → IsAmong w versions ⊎ (v ≡ w)
among-insert [] v w (inl here) = inr here
among-insert [] v w (inr none) = absurd none
among-insert (x ∷ versions) v w among =
    elim (list_cmp v x) as (λ r. IsAmong w (match_ordering r (v ∷ x ∷ versions) (x ∷ versions) (x ∷ insert_key list_cmp versions v)) → IsAmong w (x ∷ versions) ⊎ (v ≡ w)) [
      | Less ↦ λ any. first any
      | Equal ↦ λ any. inl any
      | Greater ↦ λ any. later (among-insert versions v w) any
    ] among where
      first : IsAmong w (v ∷ x ∷ versions) → IsAmong w (x ∷ versions) ⊎ (v ≡ w)
      first (inl here) = inr here
      first (inr there) = inl there

      later : (IsAmong w (insert_key list_cmp versions v) → IsAmong w versions ⊎ (v ≡ w)) → IsAmong w (x ∷ insert_key list_cmp versions v) → IsAmong w (x ∷ versions) ⊎ (v ≡ w)
      later rest (inl here) = inl (inl here)
      later rest (inr there) = elim (rest there) as (λ _. IsAmong w (x ∷ versions) ⊎ (v ≡ w)) [ (inl old) ↦ inl (inr old) | (inr new) ↦ inr new ]

insert-among : (versions : List (List ℕ)) (v : List ℕ) → IsAmong v (insert_key list_cmp versions v)
insert-among [] v = inl refl
insert-among (x ∷ versions) v =
    elim (list_cmp v x) as (λ r. list_cmp v x ≡ r → IsAmong v (match_ordering r (v ∷ x ∷ versions) (x ∷ versions) (x ∷ insert_key list_cmp versions v))) [
      | Less ↦ λ is. inl refl
      | Equal ↦ λ is. inl (sym (list_cmp_ties v x is))
      | Greater ↦ λ is. inr (insert-among versions v)
    ] refl

insert-keeps : (versions : List (List ℕ)) (v w : List ℕ) → IsAmong w versions → IsAmong w (insert_key list_cmp versions v)
insert-keeps [] v w none = absurd none
insert-keeps (x ∷ versions) v w among =
    elim (list_cmp v x) as (λ r. IsAmong w (match_ordering r (v ∷ x ∷ versions) (x ∷ versions) (x ∷ insert_key list_cmp versions v))) [
      | Less ↦ inr among
      | Equal ↦ among
      | Greater ↦ later (insert-keeps versions v w) among
    ] where
      later : (IsAmong w versions → IsAmong w (insert_key list_cmp versions v)) → IsAmong w (x ∷ versions) → IsAmong w (x ∷ insert_key list_cmp versions v)
      later rest (inl here) = inl here
      later rest (inr there) = inr (rest there)

abbrev pub version_step : List (List ℕ) → Option Coordinates → List (List ℕ)
version_step versions None = versions
version_step versions (Some c) = insert_key list_cmp versions c.directory

abbrev pub time_step : ℕ → Option CivilTime → Option Coordinates → Option CivilTime
time_step accepted updated None = updated
time_step accepted updated (Some c) = latest_time updated (Some (civil_of accepted))

abbrev pub versions_of : List (List ℕ) → List Row → List (List ℕ)
versions_of versions rows = fold (λ vs (row : Row). version_step vs (file_at row.path)) versions rows

abbrev pub time_of : Option CivilTime → List Row → Option CivilTime
time_of updated rows = fold (λ time (row : Row). time_step row.accepted time (file_at row.path)) updated rows

artifact-step : (versions : List (List ℕ)) (updated : Option CivilTime) (accepted : ℕ) (found : Option Coordinates)
    → with_coordinates accepted found (Artifact versions updated) ≡ Artifact (version_step versions found) (time_step accepted updated found)
artifact-step versions updated accepted None = refl
artifact-step versions updated accepted (Some c) = by c.build where
  listing : Listing
  listing = Artifact (insert_key list_cmp versions c.directory) (latest_time updated (Some (civil_of accepted)))

  by : (build : Option BuildOf) → with_build_of c build (Artifact (insert_key list_cmp versions c.directory) (latest_time updated (Some (civil_of accepted)))) ≡ Artifact (insert_key list_cmp versions c.directory) (latest_time updated (Some (civil_of accepted)))
  by None = refl
  by (Some build) = refl

pub artifact-rows : (rows : List Row) (versions : List (List ℕ)) (updated : Option CivilTime) → fold with_row (Artifact versions updated) rows ≡ Artifact (versions_of versions rows) (time_of updated rows)
artifact-rows [] versions updated = refl
artifact-rows (row ∷ rows) versions updated =
    ap (λ listing. fold with_row listing rows) (artifact-step versions updated row.accepted (file_at row.path))
    ∙ artifact-rows rows (version_step versions (file_at row.path)) (time_step row.accepted updated (file_at row.path))

rising-step : (versions : List (List ℕ)) (found : Option Coordinates) → is_rising list_cmp versions ≡ true → is_rising list_cmp (version_step versions found) ≡ true
rising-step versions None rising = rising
rising-step versions (Some c) rising = is_rising-insert_key list_cmp_total versions c.directory rising

pub rising-versions : (rows : List Row) (versions : List (List ℕ)) → is_rising list_cmp versions ≡ true → is_rising list_cmp (versions_of versions rows) ≡ true
rising-versions [] versions rising = rising
rising-versions (row ∷ rows) versions rising = rising-versions rows (version_step versions (file_at row.path)) (rising-step versions (file_at row.path) rising)

-- what is listed was there before, or is the directory of a row
step-from : (versions : List (List ℕ)) (w : List ℕ) (row : Row) (found : Option Coordinates) → file_at row.path ≡ found → IsAmong w (version_step versions found) → IsAmong w versions ⊎ IsIn w row
step-from versions w row None is among = inl among
step-from versions w row (Some c) is among =
    elim (among-insert versions c.directory w among) as (λ _. IsAmong w versions ⊎ IsIn w row) [ (inl old) ↦ inl old | (inr new) ↦ inr (c, is, new) ]

pub versions-from : (rows : List Row) (versions : List (List ℕ)) (w : List ℕ) → IsAmong w (versions_of versions rows) → IsAmong w versions ⊎ AnyByRecursion (IsIn w) rows
versions-from [] versions w among = inl among
versions-from (row ∷ rows) versions w among =
    elim (versions-from rows (version_step versions (file_at row.path)) w among) as (λ _. IsAmong w versions ⊎ AnyByRecursion (IsIn w) (row ∷ rows)) [
      | (inl early) ↦ elim (step-from versions w row (file_at row.path) refl early) as (λ _. IsAmong w versions ⊎ AnyByRecursion (IsIn w) (row ∷ rows)) [ (inl old) ↦ inl old | (inr new) ↦ inr (inl new) ]
      | (inr late) ↦ inr (inr late)
    ]

step-keeps : (versions : List (List ℕ)) (w : List ℕ) (found : Option Coordinates) → IsAmong w versions → IsAmong w (version_step versions found)
step-keeps versions w None among = among
step-keeps versions w (Some c) among = insert-keeps versions c.directory w among

versions-keep : (rows : List Row) (versions : List (List ℕ)) (w : List ℕ) → IsAmong w versions → IsAmong w (versions_of versions rows)
versions-keep [] versions w among = among
versions-keep (row ∷ rows) versions w among = versions-keep rows (version_step versions (file_at row.path)) w (step-keeps versions w (file_at row.path) among)

pub versions-have : (rows : List Row) (versions : List (List ℕ)) (w : List ℕ) → AnyByRecursion (IsIn w) rows → IsAmong w (versions_of versions rows)
versions-have [] versions w none = absurd none
versions-have (row ∷ rows) versions w (inl (c, is, at)) =
    versions-keep rows (version_step versions (file_at row.path)) w
    (subst (λ (f : Option Coordinates). IsAmong w (version_step versions f)) (sym is) (subst (λ (v : List ℕ). IsAmong v (insert_key list_cmp versions c.directory)) at (insert-among versions c.directory)))
versions-have (row ∷ rows) versions w (inr later) = versions-have rows (version_step versions (file_at row.path)) w later

-- ---- the greatest of some
module _ {A : Type 0} (cmp : A → A → Ordering) (order : IsTotalOrder cmp) where
  abbrev pub chosen : A → A → A
  chosen a b = if is_lt (cmp a b) then b else a

  pub chosen-above : (a b : A) → (is_gt (cmp a (chosen a b)) ≡ false) × (is_gt (cmp b (chosen a b)) ≡ false)
  chosen-above a b =
      elim (cmp a b) as (λ r. cmp a b ≡ r → (is_gt (cmp a (if is_lt r then b else a)) ≡ false) × (is_gt (cmp b (if is_lt r then b else a)) ≡ false)) [
        | Less ↦ λ is. (ap is_gt is, ap is_gt (tied_itself order b))
        | Equal ↦ λ is. (ap is_gt (tied_itself order a), ap is_gt (order.antisymm b a ∙ ap ordering_reverse is))
        | Greater ↦ λ is. (ap is_gt (tied_itself order a), ap is_gt (order.antisymm b a ∙ ap ordering_reverse is))
      ] refl

  pub chosen-one : (a b : A) → (chosen a b ≡ b) ⊎ (chosen a b ≡ a)
  chosen-one a b = elim (is_lt (cmp a b)) as (λ x. ((if x then b else a) ≡ b) ⊎ ((if x then b else a) ≡ a)) [ true ↦ inl refl | false ↦ inr refl ]

-- ---- times: the latest of some rows
-- what a time is after some rows: one that was there, or one of theirs, and none of them is later
abbrev pub IsTimeOf : Option CivilTime → List Row → CivilTime → Type 0
IsTimeOf updated rows time =
    ((updated ≡ Some time) ⊎ AnyByRecursion (λ (row : Row). civil_of row.accepted ≡ time) rows)
    × ((old : CivilTime) → updated ≡ Some old → is_gt (time_cmp old time) ≡ false)
    × AllByRecursion (λ (row : Row). is_gt (time_cmp (civil_of row.accepted) time) ≡ false) rows

abbrev pub HasPath : Row → Type 0
HasPath row = (c : Coordinates) × (file_at row.path ≡ Some c)

abbrev pub TimeThen : Option CivilTime → List Row → Type 0
TimeThen updated rows = (time : CivilTime) × (time_of updated rows ≡ Some time) × IsTimeOf updated rows time

-- from a time on
time-from : (rows : List Row) (old : CivilTime) → AllByRecursion HasPath rows → TimeThen (Some old) rows
time-from [] old paths = (old, refl, (inl refl, (λ o is. let same : old ≡ o = cc in ap is_gt (ap (λ x. time_cmp x old) (sym same) ∙ tied_itself time_cmp_total old)), tt))
time-from (row ∷ rows) old paths =
    let mine : CivilTime = civil_of row.accepted in
    let (above_old, above_mine) = chosen-above time_cmp time_cmp_total old mine in
    let (time, is, (from, up, all)) = time-from rows (chosen time_cmp time_cmp_total old mine) paths.1 in
    let best_up = up (chosen time_cmp time_cmp_total old mine) refl in (
      time,
      ap (λ found. time_of (time_step row.accepted (Some old) found) rows) paths.0.1 ∙ is,
      (
        by from,
        (λ o o_is. let same : old ≡ o = cc in subst (λ (x : CivilTime). is_gt (time_cmp x time) ≡ false) same (upto time_cmp_total old (chosen time_cmp time_cmp_total old mine) time above_old best_up)),
        (upto time_cmp_total mine (chosen time_cmp time_cmp_total old mine) time above_mine best_up, all),
      ),
    ) where
      by : {time : CivilTime} → (Some (chosen time_cmp time_cmp_total old (civil_of row.accepted)) ≡ Some time) ⊎ AnyByRecursion (λ (r : Row). civil_of r.accepted ≡ time) rows
          → (Some old ≡ Some time) ⊎ AnyByRecursion (λ (r : Row). civil_of r.accepted ≡ time) (row ∷ rows)
      by (inr later) = inr (inr later)
      by {time} (inl here) =
          elim (chosen-one time_cmp time_cmp_total old (civil_of row.accepted)) as (λ _. (Some old ≡ Some time) ⊎ AnyByRecursion (λ (r : Row). civil_of r.accepted ≡ time) (row ∷ rows)) [
            | (inl one) ↦ inr (inl (let same : chosen time_cmp time_cmp_total old (civil_of row.accepted) ≡ time = cc in sym one ∙ same))
            | (inr other) ↦ inl (ap Some (sym other) ∙ here)
          ]

-- of some rows, of which there is one
pub latest-rows : (row : Row) (rows : List Row) → AllByRecursion HasPath (row ∷ rows) → IsLatest (row ∷ rows) (time_of None (row ∷ rows))
latest-rows row rows paths =
    let mine : CivilTime = civil_of row.accepted in
    let (time, is, (from, up, all)) = time-from rows mine paths.1 in
    (time, ap (λ found. time_of (time_step row.accepted None found) rows) paths.0.1 ∙ is, by from, (up mine refl, all)) where
      by : {time : CivilTime} → (Some (civil_of row.accepted) ≡ Some time) ⊎ AnyByRecursion (λ (r : Row). civil_of r.accepted ≡ time) rows → AnyByRecursion (λ (r : Row). civil_of r.accepted ≡ time) (row ∷ rows)
      by {time} (inl here) = inl (let same : civil_of row.accepted ≡ time = cc in same)
      by (inr later) = inr later

-- ---- builds
abbrev pub entry_of : Coordinates → BuildOf → Entry
entry_of c build = (record { classifier = c.classifier; extension = c.extension }, record { base = unwrap_or (base_of c.directory) []; build = build })

abbrev pub entry_step : List Entry → Coordinates → Option BuildOf → List Entry
entry_step entries c None = entries
entry_step entries c (Some build) = with_entry entries (entry_of c build)

abbrev pub build_step : Option BuildOf → Option BuildOf → Option BuildOf
build_step newest None = newest
build_step newest (Some build) = newest_build newest (Some build)

abbrev pub entries_then : List Entry → Option Coordinates → List Entry
entries_then entries None = entries
entries_then entries (Some c) = entry_step entries c c.build

abbrev pub newest_then : Option BuildOf → Option Coordinates → Option BuildOf
newest_then newest None = newest
newest_then newest (Some c) = build_step newest c.build

abbrev pub entries_of : List Entry → List Row → List Entry
entries_of entries rows = fold (λ es (row : Row). entries_then es (file_at row.path)) entries rows

abbrev pub newest_of : Option BuildOf → List Row → Option BuildOf
newest_of newest rows = fold (λ b (row : Row). newest_then b (file_at row.path)) newest rows

snapshot-step : (base : List ℕ) (newest : Option BuildOf) (entries : List Entry) (accepted : ℕ) (found : Option Coordinates)
    → with_coordinates accepted found (Snapshot base newest entries) ≡ Snapshot base (newest_then newest found) (entries_then entries found)
snapshot-step base newest entries accepted None = refl
snapshot-step base newest entries accepted (Some c) = by c.build where
  by : (build : Option BuildOf) → with_build_of c build (Snapshot base newest entries) ≡ Snapshot base (build_step newest build) (entry_step entries c build)
  by None = refl
  by (Some build) = refl

pub snapshot-rows : (rows : List Row) (base : List ℕ) (newest : Option BuildOf) (entries : List Entry)
    → fold with_row (Snapshot base newest entries) rows ≡ Snapshot base (newest_of newest rows) (entries_of entries rows)
snapshot-rows [] base newest entries = refl
snapshot-rows (row ∷ rows) base newest entries =
    ap (λ listing. fold with_row listing rows) (snapshot-step base newest entries row.accepted (file_at row.path))
    ∙ snapshot-rows rows base (newest_then newest (file_at row.path)) (entries_then entries (file_at row.path))

-- the newest build of some rows
abbrev pub Reaches : Option BuildOf → BuildOf → Type 0
Reaches newest build = (kept : BuildOf) × (newest ≡ Some kept) × (is_gt (build_cmp build kept) ≡ false)

step-reaches : (newest : Option BuildOf) (new build : BuildOf) → Reaches newest build → Reaches (newest_build newest (Some new)) build
step-reaches newest new build (kept, is, below) =
    let (above, _) = chosen-above build_cmp build_cmp_total kept new in
    (chosen build_cmp build_cmp_total kept new, ap (λ b. newest_build b (Some new)) is, upto build_cmp_total build kept (chosen build_cmp build_cmp_total kept new) below above)

step-reached : (newest : Option BuildOf) (new : BuildOf) → Reaches (newest_build newest (Some new)) new
step-reached None new = (new, refl, ap is_gt (tied_itself build_cmp_total new))
step-reached (Some old) new = (chosen build_cmp build_cmp_total old new, refl, (chosen-above build_cmp build_cmp_total old new).1)

then-reaches : (newest : Option BuildOf) (build : BuildOf) (found : Option Coordinates) → Reaches newest build → Reaches (newest_then newest found) build
then-reaches newest build None reaches = reaches
then-reaches newest build (Some c) reaches = by c.build where
  by : (new : Option BuildOf) → Reaches (build_step newest new) build
  by None = reaches
  by (Some new) = step-reaches newest new build reaches

rows-reach : (rows : List Row) (newest : Option BuildOf) (build : BuildOf) → Reaches newest build → Reaches (newest_of newest rows) build
rows-reach [] newest build reaches = reaches
rows-reach (row ∷ rows) newest build reaches = rows-reach rows (newest_then newest (file_at row.path)) build (then-reaches newest build (file_at row.path) reaches)

pub newest-reaches : (rows : List Row) (newest : Option BuildOf) (build : BuildOf) → AnyByRecursion (IsOfBuild build) rows → Reaches (newest_of newest rows) build
newest-reaches [] newest build none = absurd none
newest-reaches (row ∷ rows) newest build (inl (c, is, built)) =
    rows-reach rows (newest_then newest (file_at row.path)) build
    (subst (λ (f : Option Coordinates). Reaches (newest_then newest f) build) (sym is) (subst (λ (b : Option BuildOf). Reaches (build_step newest b) build) (sym built) (step-reached newest build)))
newest-reaches (row ∷ rows) newest build (inr later) = newest-reaches rows (newest_then newest (file_at row.path)) build later

-- it is one of theirs
step-newest : (newest : Option BuildOf) (new build : BuildOf) → newest_build newest (Some new) ≡ Some build → (newest ≡ Some build) ⊎ (new ≡ build)
step-newest None new build is = inr (let same : new ≡ build = cc in same)
step-newest (Some old) new build is =
    elim (chosen-one build_cmp build_cmp_total old new) as (λ _. (Some old ≡ Some build) ⊎ (new ≡ build)) [
      | (inl one) ↦ inr (let same : chosen build_cmp build_cmp_total old new ≡ build = cc in sym one ∙ same)
      | (inr other) ↦ inl (ap Some (sym other) ∙ is)
    ]

then-newest : (newest : Option BuildOf) (build : BuildOf) (row : Row) (found : Option Coordinates) → file_at row.path ≡ found → newest_then newest found ≡ Some build → (newest ≡ Some build) ⊎ IsOfBuild build row
then-newest newest build row None there is = inl is
then-newest newest build row (Some c) there is = by c.build refl is where
  by : (new : Option BuildOf) → c.build ≡ new → build_step newest new ≡ Some build → (newest ≡ Some build) ⊎ IsOfBuild build row
  by None built e = inl e
  by (Some new) built e =
      elim (step-newest newest new build e) as (λ _. (newest ≡ Some build) ⊎ IsOfBuild build row) [ (inl old) ↦ inl old | (inr same) ↦ inr (c, there, built ∙ ap Some same) ]

pub newest-from : (rows : List Row) (newest : Option BuildOf) (build : BuildOf) → newest_of newest rows ≡ Some build → (newest ≡ Some build) ⊎ AnyByRecursion (IsOfBuild build) rows
newest-from [] newest build is = inl is
newest-from (row ∷ rows) newest build is =
    elim (newest-from rows (newest_then newest (file_at row.path)) build is) as (λ _. (newest ≡ Some build) ⊎ AnyByRecursion (IsOfBuild build) (row ∷ rows)) [
      | (inl early) ↦ elim (then-newest newest build row (file_at row.path) refl early) as (λ _. (newest ≡ Some build) ⊎ AnyByRecursion (IsOfBuild build) (row ∷ rows)) [ (inl old) ↦ inl old | (inr new) ↦ inr (inl new) ]
      | (inr late) ↦ inr (inr late)
    ]
