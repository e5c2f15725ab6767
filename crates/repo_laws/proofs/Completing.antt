-- What further digests leave of the tables to which a start gives them.
use native.Mathlib.Omega.{arith}
use Rattle.std.proofs.Common.{◌≡◌, ◌≤◌, ◌<◌, ◌+◌, ℕ, true, false, inl, inr, List, Option, Some, None, refl, sym, ◌∙◌, ap, subst}
use Rattle.std.specs.Prelude.{◌==◌, if◌then◌else◌, count_by, find}
use Rattle.std.specs.Option.{option_map}
use Rattle.std.specs.List.{AllByRecursion}
use Rattle.std.specs.List.Sorted.{IsStrictlySortedBy}
use Rattle.std.specs.declared.cmp.Ordering.TheVariants.{Less}
use Rattle.mvn_digest.specs.declared.known.Further.{Further}
use Rattle.repo_model.specs.Data.{Row}
use Rattle.repo_model.specs.Tables.{Tables, RecordedRow, RecordedDocument, RecordedSession, digested, is_recorded, recorded_at}
use Rattle.repo_model.specs.History.{latest_moment}
use Rattle.repo_model.specs.State.{number_end}
use Rattle.repo_laws.specs.Holds.{InOrder, row_cmp, document_cmp, session_cmp}
use Rattle.repo_laws.specs.InRange.{InRange, IsRowInRange, AreCompleted, none, same, given, Completes, IsRowSince, IsFoundSince, IsSameBlob}
use Rattle.repo_model.specs.Paths.{FadesRightly}
use Rattle.repo_laws.proofs.Counts.{one_if, count-cons}

-- what further digests leave of a row, they leave of all
all-completed : (P : RecordedRow → Type 0) → ((r : RecordedRow) (further : Further) → P r → P (record r { row = digested further r.row })) → (old new : List RecordedRow) → AreCompleted old new
    → AllByRecursion P old → AllByRecursion P new
all-completed P keeps old new none all = tt
all-completed P keeps old new (same r rows rows' rest) all = (all.0, all-completed P keeps rows rows' rest all.1)
all-completed P keeps old new (given r further rows rows' lacks rest) all = (keeps r further all.0, all-completed P keeps rows rows' rest all.1)

rows-ordered : (old new : List RecordedRow) → AreCompleted old new → IsStrictlySortedBy row_cmp old → IsStrictlySortedBy row_cmp new
unfolding IsStrictlySortedBy
rows-ordered old new none rising = tt
rows-ordered old new (same r rows rows' rest) rising =
    (all-completed (λ (x : RecordedRow). row_cmp r x ≡ Less) (λ x further before. before) rows rows' rest rising.0, rows-ordered rows rows' rest rising.1)
rows-ordered old new (given r further rows rows' lacks rest) rising =
    (all-completed (λ (x : RecordedRow). row_cmp r x ≡ Less) (λ x more before. before) rows rows' rest rising.0, rows-ordered rows rows' rest rising.1)

rows-counted : (n : ℕ) (old new : List RecordedRow) → AreCompleted old new → count_by (λ (r : RecordedRow). r.row.blob.number == n) new ≡ count_by (λ (r : RecordedRow). r.row.blob.number == n) old
rows-counted n old new none = refl
rows-counted n old new (same r rows rows' rest) =
    count-cons (λ (x : RecordedRow). x.row.blob.number == n) r rows' ∙ ap (λ k. one_if (r.row.blob.number == n) + k) (rows-counted n rows rows' rest)
    ∙ sym (count-cons (λ (x : RecordedRow). x.row.blob.number == n) r rows)
rows-counted n old new (given r further rows rows' lacks rest) =
    count-cons (λ (x : RecordedRow). x.row.blob.number == n) (record r { row = digested further r.row }) rows' ∙ ap (λ k. one_if (r.row.blob.number == n) + k) (rows-counted n rows rows' rest)
    ∙ sym (count-cons (λ (x : RecordedRow). x.row.blob.number == n) r rows)

-- what stands at a place
found-again : (found : Option Row) → IsFoundSince found found
found-again None = refl
found-again (Some row) = (row, refl, inl refl)

rows-found : (repo path : List ℕ) (old new : List RecordedRow) → AreCompleted old new → IsFoundSince (recorded_at repo path new) (recorded_at repo path old)
rows-found repo path old new none = refl
rows-found repo path old new (same r rows rows' rest) =
    elim (is_recorded repo path r)
    as (λ b. IsFoundSince (option_map (λ (x : RecordedRow). x.row) (if b then Some r else find (is_recorded repo path) rows')) (option_map (λ (x : RecordedRow). x.row) (if b then Some r else find (is_recorded repo path) rows))) [
      | true ↦ found-again (Some r.row)
      | false ↦ rows-found repo path rows rows' rest
    ]
rows-found repo path old new (given r further rows rows' lacks rest) =
    let now : RecordedRow = record r { row = digested further r.row } in
    elim (is_recorded repo path r)
    as (λ b. IsFoundSince (option_map (λ (x : RecordedRow). x.row) (if b then Some now else find (is_recorded repo path) rows')) (option_map (λ (x : RecordedRow). x.row) (if b then Some r else find (is_recorded repo path) rows))) [
      | true ↦ (digested further r.row, refl, inr (lacks, (further, refl)))
      | false ↦ rows-found repo path rows rows' rest
    ]

-- it has the number and the content that it had
pub since-blob : (row earlier : Row) → IsRowSince row earlier → IsSameBlob row.blob earlier.blob
since-blob row earlier (inl is) = (ap (λ (r : Row). r.blob.number) is, inl (ap (λ (r : Row). r.blob.print) is))
since-blob row earlier (inr (lacks, (further, is))) = (ap (λ (r : Row). r.blob.number) is, inr (lacks, (further, ap (λ (r : Row). r.blob.print) is)))

module _ (old new : Tables) (completes : Completes old new) where
  pub completed-order : InOrder old → InOrder new
  completed-order order = record {
    hosted = rows-ordered old.hosted new.hosted completes.hosted order.hosted;
    cached = rows-ordered old.cached new.cached completes.cached order.cached;
    documents = subst (λ (ds : List RecordedDocument). IsStrictlySortedBy document_cmp ds) (sym completes.documents) order.documents;
    sessions = subst (λ (ones : List RecordedSession). IsStrictlySortedBy session_cmp ones) (sym completes.sessions) order.sessions;
    blobs = λ n. omega (arith, rows-counted n old.hosted new.hosted completes.hosted, rows-counted n old.cached new.cached completes.cached, order.blobs n);
  }

  pub completed-range : InRange old → InRange new
  completed-range range = record {
    hosted = all-completed (λ (r : RecordedRow). IsRowInRange r × FadesRightly r.row) (λ r further so. so) old.hosted new.hosted completes.hosted range.hosted;
    cached = all-completed IsRowInRange (λ r further so. so) old.cached new.cached completes.cached range.cached;
    documents = subst (AllByRecursion (λ (d : RecordedDocument). d.checked ≤ latest_moment)) (sym completes.documents) range.documents;
    sessions = subst (AllByRecursion (λ (one : RecordedSession). one.number < number_end)) (sym completes.sessions) range.sessions;
  }

  pub completed-rows : (repo path : List ℕ) → IsFoundSince (recorded_at repo path new.hosted) (recorded_at repo path old.hosted)
  completed-rows repo path = rows-found repo path old.hosted new.hosted completes.hosted

  pub completed-files : (repo path : List ℕ) → IsFoundSince (recorded_at repo path new.cached) (recorded_at repo path old.cached)
  completed-files repo path = rows-found repo path old.cached new.cached completes.cached

-- rows that were completed in two runs are completed
rows-joined : (old mid new : List RecordedRow) → AreCompleted old mid → AreCompleted mid new → AreCompleted old new
rows-joined old mid new none none = none
rows-joined old mid new (same r rows rows' rest) (same now again rows'' later) = same r rows rows'' (rows-joined rows rows' rows'' rest later)
rows-joined old mid new (same r rows rows' rest) (given now further again rows'' lacks later) =
    given r further rows rows'' lacks (rows-joined rows rows' rows'' rest later)
rows-joined old mid new (given r further rows rows' lacks rest) (same now again rows'' later) =
    given r further rows rows'' lacks (rows-joined rows rows' rows'' rest later)
rows-joined old mid new (given r further rows rows' lacks rest) (given now more again rows'' still later) =
    given r more rows rows'' lacks (rows-joined rows rows' rows'' rest later)

pub completed-twice : (old mid new : Tables) → Completes old mid → Completes mid new → Completes old new
completed-twice old mid new first second = record {
  hosted = rows-joined old.hosted mid.hosted new.hosted first.hosted second.hosted;
  cached = rows-joined old.cached mid.cached new.cached first.cached second.cached;
  documents = second.documents ∙ first.documents;
  sessions = second.sessions ∙ first.sessions;
}
