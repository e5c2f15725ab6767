-- The blobs of staged files are in use: they stay so where numbers come into use, and where others become garbage.
use native.Mathlib.Omega.{arith}
use Rattle.std.proofs.Common.{◌≡◌, ℕ, zero, suc, ◌+◌, ◌≤◌, List, [], ◌∷◌, ◌++◌, refl, Bool}
use Rattle.std.specs.Prelude.{IsTrue}
use Rattle.std.specs.List.{AllByRecursion}
use Rattle.std.specs.Ordering.{match_ordering, nat_cmp}
use Rattle.std.specs.declared.cmp.Ordering.TheVariants.{Less, Equal, Greater}
use Rattle.std.specs.Cmp.Lexicographic.{slice_cmp}
use Rattle.repo_model.specs.Data.{Hosted, Staged, Session}
use Rattle.repo_model.specs.State.{is_among, change_first}
use Rattle.repo_model.specs.Effect.{with_number, with_staged, new_session}
use Rattle.repo_model.specs.Reply.{Reply, created}
use Rattle.repo_laws.specs.Laws.{rows_with, staged_with}
use Rattle.repo_laws.proofs.HoldingLists.{all-change_first, all-push}
use Rattle.repo_parts.specs.Deploys.{AreStagedInUse}
use Rattle.repo_parts.specs.Hosted.{AreInUse}
use Rattle.repo_parts.specs.Numbers.{kept_put}
use Rattle.repo_parts.proofs.AmongLemmas.{all-used, owned-used, used-more}
use Rattle.repo_parts.proofs.UseLemmas.{rows-there}

abbrev pub FileUsed : List ℕ → Staged → Type 0
FileUsed kept file = IsTrue (is_among file.blob.number kept)

abbrev pub FilesUsed : List ℕ → List Staged → Type 0
FilesUsed kept files = AllByRecursion (FileUsed kept) files

abbrev pub SessionUsed : List ℕ → Session → Type 0
SessionUsed kept s = FilesUsed kept s.staged

-- one more number is in use
pub staged-more : (kept : List ℕ) (n : ℕ) (sessions : List Session) → AreStagedInUse kept sessions → AreStagedInUse (with_number n kept) sessions
staged-more kept n sessions used = used-more (λ (f : Staged). f.blob.number) (λ (s : Session). s.staged) kept n sessions used

pub staged-put : (draft : ℕ) (reply : Reply) (kept : List ℕ) (sessions : List Session) → AreStagedInUse kept sessions → AreStagedInUse (kept_put draft reply kept) sessions
staged-put draft created kept sessions used = staged-more kept draft sessions used
staged-put draft reply kept sessions used = used

-- one more file
file-more : (kept : List ℕ) (new : Staged) (files : List Staged) → FileUsed kept new → FilesUsed kept files → FilesUsed kept (with_staged new files)
file-more kept new [] here used = (here, tt)
file-more kept new (file ∷ files) here used =
    elim (slice_cmp nat_cmp new.path file.path) as (λ o. FilesUsed kept (match_ordering o (new ∷ file ∷ files) (new ∷ file ∷ files) (file ∷ with_staged new files))) [
      | Less ↦ (here, used)
      | Equal ↦ (here, used)
      | Greater ↦ (used.0, file-more kept new files here used.1)
    ]

pub staged-file : (kept : List ℕ) (new : Staged) (test : Session → Bool) (sessions : List Session) → FileUsed kept new → AreStagedInUse kept sessions
    → AreStagedInUse kept (change_first test (λ (s : Session). record s { staged = with_staged new s.staged }) sessions)
staged-file kept new test sessions here used =
    all-change_first (SessionUsed kept) test (λ (s : Session). record s { staged = with_staged new s.staged }) (λ s so. file-more kept new s.staged here so) sessions used

-- one more session
pub staged-opened : (kept : List ℕ) (n : ℕ) (repo : List ℕ) (sessions : List Session) → AreStagedInUse kept sessions → AreStagedInUse kept (sessions ++ new_session n repo ∷ [])
staged-opened kept n repo sessions used = all-push (SessionUsed kept) sessions (new_session n repo) used tt

-- ---- by counts
-- each number of a row or of a staged file is in use
abbrev pub Covers : List ℕ → List Hosted → List Session → Type 0
Covers kept hosted sessions = (n : ℕ) → 1 ≤ rows_with n hosted + staged_with n sessions → IsTrue (is_among n kept)

pub covers : (kept : List ℕ) (hosted : List Hosted) (sessions : List Session) → AreInUse kept hosted → AreStagedInUse kept sessions → Covers kept hosted sessions
covers kept hosted sessions rows files n some = by (rows_with n hosted) refl where
  by : (k : ℕ) → rows_with n hosted ≡ k → IsTrue (is_among n kept)
  by zero is = let there : 1 ≤ staged_with n sessions = omega (arith, is, some) in owned-used (λ (f : Staged). f.blob.number) (λ (s : Session). s.staged) kept n sessions files there
  by (suc k) is = rows-there kept n hosted rows (omega (arith, is))

pub covered-files : (kept : List ℕ) (sessions : List Session) → ((n : ℕ) → 1 ≤ staged_with n sessions → IsTrue (is_among n kept)) → AreStagedInUse kept sessions
covered-files kept sessions each = all-used (λ (f : Staged). f.blob.number) (λ (s : Session). s.staged) kept sessions each
