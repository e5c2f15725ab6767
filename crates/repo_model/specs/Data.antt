-- The plain data of a repository: fingerprints, stored blobs, rows and sessions (SHA-1, SHA-256 and SHA-512 of FIPS 180-4 and MD5 of RFC 1321 as checksums).
use Rattle.std.specs.Prelude.{ℕ, Bool, ◌&&◌, ◌==◌, List, Option}
use Rattle.std.specs.Str.{bytes_eq}
use Rattle.repo_model.specs.declared.print.Print.{Print}
use Rattle.repo_model.specs.declared.session.SessionResult.{SessionResult}
use Rattle.mvn_metadata.specs.Document.{Document}
use Rattle.repo_model.specs.Settings.{Rule, ProxyRule}

abbrev pub is_same_print : Print → Print → Bool
is_same_print a b =
    (a.length == b.length)
    && (bytes_eq a.digests.sha1 b.digests.sha1 && (bytes_eq a.digests.md5 b.digests.md5
    && (bytes_eq a.digests.sha256 b.digests.sha256 && bytes_eq a.digests.sha512 b.digests.sha512)))

-- a stored blob: its number, its bytes where they are told, and its fingerprint
pub record Blob : Type 0 where
  pub number : ℕ
  pub bytes : Option (List ℕ)
  pub print : Print

-- a row is visible, or unlisted since a moment and kept until the grace period is over
pub data Phase : Type 0 where
  listed : Phase
  fading : ℕ → Phase

-- a deployed file of a hosted repository
pub record Row : Type 0 where
  pub path : List ℕ
  pub blob : Blob
  pub accepted : ℕ
  pub phase : Phase

-- a hosted repository: its rows, each path once, in byte order of path
pub record Hosted : Type 0 where
  pub rule : Rule
  pub rows : List Row

-- a document that a proxy keeps, and when its remote was asked for it
pub record Kept : Type 0 where
  pub path : List ℕ
  pub checked : ℕ
  pub document : Document

-- a path at which a proxy's remote had nothing, and when it was asked
pub record NegativeEntry : Type 0 where
  pub path : List ℕ
  pub moment : ℕ

-- a proxy: its cached files, each path once, in byte order of path, none of which fades; the documents that it keeps, and its negative entries, alike
pub record Proxy : Type 0 where
  pub rule : ProxyRule
  pub files : List Row
  pub documents : List Kept
  pub negatives : List NegativeEntry

-- a file that a session has staged
pub record Staged : Type 0 where
  pub path : List ℕ
  pub blob : Blob

-- a session for one hosted repository: open with its staged files in byte order of path, or ended
pub record Session : Type 0 where
  pub number : ℕ
  pub repo : List ℕ
  pub staged : List Staged
  pub ended : Option SessionResult

-- where a file is put: a repository, or a session
pub data Place : Type 0 where
  repository : List ℕ → Place
  session : ℕ → Place
