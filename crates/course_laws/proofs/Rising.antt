-- Counts of faults that rise, and those that stand still.
use Rattle.std.proofs.Common.{◌≡◌, ℕ, ◌≤◌, ◌<◌, refl, sym, subst, ap, arith}
use Rattle.outside.specs.Faults.{Rose, last_count}
use Rattle.outside_remote.specs.Exchanges.{Sees}
use Rattle.repo_course.specs.Serving.{Outside}
use Rattle.course_laws.specs.AsPlayed.{StoodStill}
pub use Rattle.course_laws.specs.Endings.{NoneFell}

-- a count did not rise, and does not stand at the end of its type
abbrev pub Calm : ℕ → ℕ → Type 0
Calm before after = (after ≤ before) × (before < last_count)

pub calm-of : (before after : ℕ) → StoodStill before after → Calm before after
calm-of before after stood = (let h = stood.0 in omega arith, let h = stood.0 in let k = stood.1 in omega arith)

pub not-risen : (before after : ℕ) → Rose before after → after ≤ before → before < last_count → ⊥
not-risen before after rose le lt = omega arith

-- a count that rose later rose
pub rose-before : (first before after : ℕ) → first ≤ before → Rose before after → Rose first after
rose-before first before after le rose = (omega arith, omega arith)

pub calm-first : (a b c : ℕ) → b ≤ c → Calm a c → Calm a b
calm-first a b c le calm = (omega arith, calm.1)

pub calm-then : (a b c : ℕ) → a ≤ b → b ≤ c → Calm a c → Calm b c
calm-then a b c le more calm = (omega arith, omega arith)

pub grew : (old new : Outside) → new.read_faults ≡ old.read_faults → new.write_faults ≡ old.write_faults
    → new.blob_faults ≡ old.blob_faults → new.remote ≡ old.remote → NoneFell old new
grew old new r w b m = let same = ap (λ (o : Sees). o.faults) m in record { reads = omega arith; writes = omega arith; blobs = omega arith; remote = omega arith }

pub grew-then : (old mid new : Outside) → NoneFell old mid → NoneFell mid new → NoneFell old new
grew-then old mid new a b = record { reads = omega arith; writes = omega arith; blobs = omega arith; remote = omega arith }

pub from-is : (old mid new : Outside) → NoneFell old mid → new ≡ mid → NoneFell old new
from-is old mid new g is = subst (λ o. NoneFell old o) (sym is) g

pub still-grew : (old new : Outside) → new ≡ old → NoneFell old new
still-grew old new is = from-is old old new (grew old old refl refl refl refl) is

-- a count that rose in the middle would be higher in the end
pub risen : {P : Type 0} (before faults last : ℕ) → Rose before faults → faults ≤ last → Calm before last → P
risen before faults last rose le calm = absurd (not-risen before faults rose (let h = calm.0 in omega arith) calm.1)

-- no count rose
pub record Quiet (old new : Outside) : Type 0 where
  pub reads : Calm old.read_faults new.read_faults
  pub writes : Calm old.write_faults new.write_faults
  pub blobs : Calm old.blob_faults new.blob_faults

pub quiet-first : (old mid new : Outside) → NoneFell mid new → Quiet old new → Quiet old mid
quiet-first old mid new g q = record {
  reads = calm-first old.read_faults mid.read_faults new.read_faults g.reads q.reads;
  writes = calm-first old.write_faults mid.write_faults new.write_faults g.writes q.writes;
  blobs = calm-first old.blob_faults mid.blob_faults new.blob_faults g.blobs q.blobs;
}

pub quiet-then : (old mid new : Outside) → NoneFell old mid → NoneFell mid new → Quiet old new → Quiet mid new
quiet-then old mid new first more q = record {
  reads = calm-then old.read_faults mid.read_faults new.read_faults first.reads more.reads q.reads;
  writes = calm-then old.write_faults mid.write_faults new.write_faults first.writes more.writes q.writes;
  blobs = calm-then old.blob_faults mid.blob_faults new.blob_faults first.blobs more.blobs q.blobs;
}

-- a count that rose, where none did
pub no-write-fault : {P : Type 0} (old new : Outside) (faults : ℕ) → Rose old.write_faults faults → new.write_faults ≡ faults → Quiet old new → P
no-write-fault old new faults rose is q = risen old.write_faults faults new.write_faults rose (omega arith) q.writes

pub no-blob-fault : {P : Type 0} (old new : Outside) (faults : ℕ) → Rose old.blob_faults faults → new.blob_faults ≡ faults → Quiet old new → P
no-blob-fault old new faults rose is q = risen old.blob_faults faults new.blob_faults rose (omega arith) q.blobs

pub no-read-fault : {P : Type 0} (old new : Outside) (faults : ℕ) → Rose old.read_faults faults → new.read_faults ≡ faults → Quiet old new → P
no-read-fault old new faults rose is q = risen old.read_faults faults new.read_faults rose (omega arith) q.reads
