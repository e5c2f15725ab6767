-- A file on a disk: what a read gives, and what a crash may leave of it (unsynced writes may be torn).
use Rattle.std.specs.Prelude.{◌≡◌, ◌⊎◌, ◌≤◌, ◌+◌, max, ⊤, ℕ, List, ◌++◌, length, take, drop, Option, None, Some}

-- a call that changes a file: a write of so many bytes at a place, a cut to a size, a sync
pub data Call : Type 0 where
  Write : (at n : ℕ) → Call
  Cut : (size : ℕ) → Call
  Sync : Call

-- the calls made on a file since it was opened, and what a read gave after each of them
pub data Trace : Type 0 where
  Opened : (file : List ℕ) → Trace
  After : (call : Call) (file : List ℕ) (before : Trace) → Trace

-- what a read gives now
abbrev pub content : Trace → List ℕ
content (Opened file) = file
content (After call file before) = file

-- what a write of n bytes may leave: any bytes in its range and past the old end, the same elsewhere, and any length
-- from the old one to the new one
pub record Torn (at n : ℕ) (old new : List ℕ) : Type 0 where
  pub before : take at new ≡ take at old
  pub after : drop (at + n) new ≡ drop (at + n) old
  pub no_shorter : length old ≤ length new
  pub no_longer : length new ≤ max (length old) (at + n)

-- what a crash now may leave: after a sync what a read gives, and from then on each write torn and each cut done or not
abbrev pub IsImage : Trace → List ℕ → Type 0
IsImage (Opened file) image = image ≡ file
IsImage (After (Write at n) file before) image = (old : List ℕ) × IsImage before old × Torn at n old image
IsImage (After (Cut size) file before) image = (old : List ℕ) × IsImage before old × ((image ≡ old) ⊎ (image ≡ take size old))
IsImage (After Sync file before) image = image ≡ file

abbrev pub AllImages : (List ℕ → Type 0) → Trace → Type 0
AllImages P trace = (image : List ℕ) → IsImage trace image → P image

-- the trace goes on from the old one, and at each moment from there on every image has P
pub data Throughout (P : List ℕ → Type 0) (old : Trace) : Trace → Type 0 where
  Here : AllImages P old → Throughout P old old
  Then : (call : Call) (file : List ℕ) (mid : Trace) → Throughout P old mid → AllImages P (After call file mid) → Throughout P old (After call file mid)

-- from the old trace on every image has P, and what a read gives now is one of the images
pub record Keeps (P : List ℕ → Type 0) (old new : Trace) : Type 0 where
  pub moments : Throughout P old new
  pub image : IsImage new (content new)

-- told before and after, with R between the two, or told neither before nor after
abbrev pub Told : Option Trace → Option Trace → (Trace → Trace → Type 0) → Type 0
Told None None R = ⊤
Told None (Some new) R = ⊥
Told (Some old) None R = ⊥
Told (Some old) (Some new) R = R old new

-- the call was made, at least in part, or it was not; what a read gives is one of the images
pub record MayHave (call : Call) (old new : Trace) : Type 0 where
  pub step : (new ≡ old) ⊎ (new ≡ After call (content new) old)
  pub image : IsImage new (content new)

-- the file with these bytes at this place
abbrev pub written : List ℕ → ℕ → List ℕ → List ℕ
written file at bytes = take at file ++ bytes ++ drop (at + length bytes) file

-- a read gives this file, and a crash leaves it
pub record IsDurable (file : List ℕ) (trace : Trace) : Type 0 where
  pub reads : content trace ≡ file
  pub only : AllImages (λ image. image ≡ file) trace
  pub image : IsImage trace (content trace)

-- from one trace to the other every image is an image from before, torn by a write of n bytes at that place
abbrev pub Tears : ℕ → ℕ → Trace → Trace → Type 0
Tears at n old new = Keeps (λ image. (from : List ℕ) × IsImage old from × Torn at n from image) old new

-- the same of a cut
abbrev pub Cuts : ℕ → Trace → Trace → Type 0
Cuts size old new = Keeps (λ image. (from : List ℕ) × IsImage old from × ((image ≡ from) ⊎ (image ≡ take size from))) old new
