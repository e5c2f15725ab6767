-- What a server sees of its surroundings while it serves a stream.
use Rattle.std.specs.Prelude.{ℕ, List, ◌++◌, Option, ◌≡◌, length, IsSome}
use Rattle.mvn_digest.specs.Digests.{digests_of}
use Rattle.outside.specs.declared.tells.Tells.{Ghosts}
use Rattle.outside.specs.Blobs.{Shelf}
use Rattle.outside.specs.Told.{behind}
use Rattle.outside_remote.specs.Exchanges.{Sees}
use Rattle.http_wire.specs.Stream.{unread}
use Rattle.repo_model.specs.declared.print.Print.{Print}
use Rattle.repo_course.specs.Cleaning.{Store, store}

-- what a server sees of its surroundings while it serves a stream
pub record Outside : Type 0 where
  -- the bytes of the stream that are not used yet, and those that it has taken, where told
  pub input : Option (List ℕ)
  pub output : Option (List ℕ)
  -- how often its two sides and the blobs have failed
  pub read_faults : ℕ
  pub write_faults : ℕ
  pub blob_faults : ℕ
  -- what the blobs tell of themselves
  pub shelf : Shelf
  -- what is seen of the remotes: answers left, exchanges made, and how often one has failed
  pub remote : Sees

-- what is seen of a stream that tells this, some of whose bytes are held
abbrev pub outside : {X : Type 0} → Ghosts X → List ℕ → X → ℕ → Shelf → Sees → Outside
outside G held stream blob_faults shelf remote = record {
  input = unread held (G.left stream);
  output = G.taken stream;
  read_faults = G.read_faults stream;
  write_faults = G.write_faults stream;
  blob_faults = blob_faults;
  shelf = shelf;
  remote = remote;
}

-- what is seen of the blobs, and the same of a store of others
abbrev pub store_of : Outside → Store
store_of o = store o.shelf o.blob_faults

abbrev pub with_store : Store → Outside → Outside
with_store kept o = record o { shelf = kept.shelf; blob_faults = kept.faults }

-- these bytes written too
abbrev pub writes : List ℕ → Outside → Outside
writes bytes o = record o { output = behind o.output bytes }

-- each blob in use tells its bytes
abbrev pub AllTell : {X : Type 0} → (X → Option (List ℕ)) → Type 0
AllTell {X} bytes = (held : X) → IsSome (bytes held)

-- the bytes are a front of the whole
abbrev pub IsFrontOf : List ℕ → List ℕ → Type 0
IsFrontOf part whole = (rest : List ℕ) × (whole ≡ part ++ rest)

-- only the bytes not yet used are others
abbrev pub ReadsOn : Outside → Outside → Type 0
ReadsOn old new = (rest : Option (List ℕ)) × (new ≡ record old { input = rest })

abbrev pub print_of : List ℕ → Print
print_of body = record { length = length body; digests = digests_of body }
