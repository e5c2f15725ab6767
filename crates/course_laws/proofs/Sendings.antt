-- What comes of sending a file's answer: its head and the bytes of its blob, or the head alone.
use Rattle.std.proofs.Common.{◌≡◌, ℕ, Bool, true, false, List, [], ◌++◌, Option, Some, None, inl, inr, refl, sym, subst, ap, ◌∙◌, append-nil}
use Rattle.std.specs.Prelude.{if◌then◌else◌, unwrap_or}
use Rattle.std.proofs.lemmas.Bool.{false≢true}
use Rattle.outside.specs.Faults.{Rose}
use Rattle.outside.specs.Told.{IsWhereTold}
use Rattle.repo_model.specs.declared.print.Print.{Print}
use Rattle.repo_model.specs.Data.{Blob}
use Rattle.repo_course.specs.declared.outcomes.Sent.TheVariants as sent
use Rattle.repo_course.specs.Serving.{IsContentSoFar, IsCut, IsFrontOf, IsOtherContent, Outside, SendsAnswer, print_of, writes}

-- the bytes after the head
abbrev pub rest_of : Bool → List ℕ → List ℕ
rest_of only bytes = if only then [] else bytes

-- the bytes of a file that is sent, or of which the head alone is
abbrev pub AreBytes : Bool → Blob → List ℕ → Type 0
AreBytes only blob bytes = IsWhereTold blob.bytes bytes × (only ≡ false → blob.print ≡ print_of bytes)

-- the bytes of a file, or some that were found in its place
abbrev pub AreSomeBytes : Bool → Blob → List ℕ → Type 0
AreSomeBytes only blob bytes = IsWhereTold blob.bytes bytes × (only ≡ false → IsContentSoFar blob bytes)

any-told : (bytes : Option (List ℕ)) → IsWhereTold bytes (unwrap_or bytes [])
any-told None = tt
any-told (Some bytes) = refl

any-bytes : (blob : Blob) → AreBytes true blob (unwrap_or blob.bytes [])
any-bytes blob = (any-told blob.bytes, λ bodied. absurd (false≢true (sym bodied)))

told-so-far : (blob : Blob) (bytes : List ℕ) → IsContentSoFar blob bytes → IsWhereTold blob.bytes bytes
told-so-far blob bytes (inl content) = content.0
told-so-far blob bytes (inr some) = subst (λ (told : Option (List ℕ)). IsWhereTold told bytes) (sym some.0) tt

pub sent-whole : (only : Bool) (blob : Blob) (head : List ℕ) (old mid : Outside) → SendsAnswer only blob head sent.Whole old mid
    → (bytes : List ℕ) × AreBytes only blob bytes × (mid ≡ writes (head ++ rest_of only bytes) old)
sent-whole true blob head old mid t = (unwrap_or blob.bytes [], any-bytes blob, t ∙ ap (λ b. writes b old) (sym (append-nil head)))
sent-whole false blob head old mid t = (t.0, (t.1.0, λ bodied. t.1.1), t.2)

pub not-sent : (only : Bool) (blob : Blob) (head : List ℕ) (old mid : Outside) → SendsAnswer only blob head sent.BlobFault old mid
    → (faults : ℕ) × (only ≡ false) × Rose old.blob_faults faults × (mid ≡ record old { blob_faults = faults })
not-sent true blob head old mid t = absurd t
not-sent false blob head old mid t = (t.0, refl, t.1, t.2)

pub other-found : (only : Bool) (blob : Blob) (head : List ℕ) (recorded found : Print) (old mid : Outside)
    → SendsAnswer only blob head (sent.BlobDiffers recorded found) old mid → (only ≡ false) × IsOtherContent blob recorded found × (mid ≡ old)
other-found true blob head recorded found old mid t = absurd t
other-found false blob head recorded found old mid t = (refl, t.0, t.1)

pub sent-in-part : (only : Bool) (blob : Blob) (head : List ℕ) (old mid : Outside) → SendsAnswer only blob head sent.SinkFault old mid
    → (faults : ℕ) × (bytes part : List ℕ) × Rose old.write_faults faults × AreSomeBytes only blob bytes
    × IsFrontOf part (head ++ rest_of only bytes) × (mid ≡ writes part (record old { write_faults = faults }))
sent-in-part true blob head old mid t = (
  t.0,
  unwrap_or blob.bytes [],
  t.1,
  t.2,
  (any-told blob.bytes, λ bodied. absurd (false≢true (sym bodied))),
  subst (IsFrontOf t.1) (sym (append-nil head)) t.3,
  t.4,
)
sent-in-part false blob head old mid t = (t.0, t.1, t.2, t.3, (told-so-far blob t.1 t.4, λ bodied. t.4), t.5, t.6)

pub cut-by-fault : (only : Bool) (blob : Blob) (head : List ℕ) (old mid : Outside) → SendsAnswer only blob head sent.CutFault old mid
    → (faults : ℕ) × (bytes part : List ℕ) × (only ≡ false) × Rose old.blob_faults faults × IsWhereTold blob.bytes bytes × IsCut blob bytes part
    × (mid ≡ writes (head ++ part) (record old { blob_faults = faults }))
cut-by-fault true blob head old mid t = absurd t
cut-by-fault false blob head old mid t = (t.0, t.1, t.2, refl, t.3, t.4, t.5, t.6)

pub cut-by-other : (only : Bool) (blob : Blob) (head : List ℕ) (recorded found : Print) (old mid : Outside)
    → SendsAnswer only blob head (sent.CutDiffers recorded found) old mid
    → (bytes part : List ℕ) × (only ≡ false) × IsOtherContent blob recorded found × (found ≡ print_of bytes) × IsCut blob bytes part
    × (mid ≡ writes (head ++ part) old)
cut-by-other true blob head recorded found old mid t = absurd t
cut-by-other false blob head recorded found old mid t = (t.0, t.1, refl, t.2, t.3, t.4, t.5)

pub sent-nothing : (only : Bool) (blob : Blob) (head : List ℕ) (old mid : Outside) → SendsAnswer only blob head sent.NoMemory old mid → mid ≡ old
sent-nothing true blob head old mid t = t
sent-nothing false blob head old mid t = t
