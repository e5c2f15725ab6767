-- The bytes of bodies and blobs that are told.
use Rattle.std.proofs.Common.{◌≡◌, ℕ, ◌<◌, List, [], inl, inr, Option, Some, None, Ok, Err, refl, sym, subst, ap, arith, ◌++◌, length, length-append}
use Rattle.std.specs.Prelude.{IsSome, unwrap_or}
use Rattle.repo_model.specs.Data.{Blob}
use Rattle.repo_course.specs.declared.outcomes.Took.TheVariants as took
use Rattle.repo_course.specs.Serving.{Reads, Outside, print_of}
use Rattle.outside.specs.Told.{IsWhereTold, in_front}
use Rattle.std.proofs.lemmas.Bool.{false≢true, lt-ltb, le-ltb}
use Rattle.std.proofs.Math.Seq.{take-append_seam}
use Rattle.course_laws.specs.Faultless.{body_of, taken_body}

-- what is told is these bytes, where it is told
pub told-is : (bytes : Option (List ℕ)) (body : List ℕ) → IsWhereTold bytes body → IsSome bytes → bytes ≡ Some body
told-is None body is some = absurd (false≢true some)
told-is (Some them) body is some = ap Some is

pub bytes-are : (o : Option (List ℕ)) (bytes : List ℕ) → IsSome o → IsWhereTold o bytes → unwrap_or o [] ≡ bytes
bytes-are None bytes some is = absurd (false≢true some)
bytes-are (Some told) bytes some is = is

-- bytes that are told are not untold
pub untold : {P : Type 0} (o : Option (List ℕ)) → o ≡ None → IsSome o → P
untold None none some = absurd (false≢true some)
untold (Some told) none some = absurd (cc)

-- the bytes in front of what is left
pub front-of : (input body : List ℕ) (rest : Option (List ℕ)) → Some input ≡ in_front body rest
    → (r : List ℕ) × (rest ≡ Some r) × (input ≡ body ++ r)
front-of input body None is = absurd (cc)
front-of input body (Some r) is = (r, refl, cc)

pub blob-is : (blob : Blob) (number : ℕ) (body : List ℕ) → blob.number ≡ number → blob.bytes ≡ Some body → blob.print ≡ print_of body
    → record { number = number; bytes = Some body; print = print_of body } ≡ blob
blob-is blob n body number bytes print = λ i. record { number = sym number i; bytes = sym bytes i; print = sym print i }

pub taken-whole : (n count : ℕ) (body rest : List ℕ) (blob : Blob) → length body ≡ count → blob.number ≡ n → blob.bytes ≡ Some body
    → blob.print ≡ print_of body → taken_body n count (body ++ rest) ≡ Ok blob
taken-whole n count body rest blob long number bytes print =
    subst (λ c. taken_body n c (body ++ rest) ≡ Ok blob) long
    (rw (le-ltb (length (body ++ rest)) (length body) (omega (arith, length-append body rest)), take-append_seam body rest)
    (ap Ok (blob-is blob n body number bytes print)))

pub body-whole : (count : ℕ) (body rest : List ℕ) → length body ≡ count → body_of count (body ++ rest) ≡ Ok body
body-whole count body rest long =
    subst (λ c. body_of c (body ++ rest) ≡ Ok body) long
    (rw (le-ltb (length (body ++ rest)) (length body) (omega (arith, length-append body rest)), take-append_seam body rest) refl)

pub body-torn : (count : ℕ) (input : List ℕ) → length input < count → body_of count input ≡ Err took.Torn
body-torn count input short = rw (lt-ltb (length input) count short)

pub taken-torn : (n count : ℕ) (input : List ℕ) → length input < count → taken_body n count input ≡ Err took.Torn
taken-torn n count input short = rw (lt-ltb (length input) count short)

-- where memory ran out for a body nothing is written
pub unwritten : (count : ℕ) (old mid : Outside) → Reads count (Err took.NoMemory) old mid → mid.output ≡ old.output
unwritten count old mid (inl still) = ap (λ o. o.output) still
unwritten count old mid (inr t) = ap (λ o. o.output) t.1.3
