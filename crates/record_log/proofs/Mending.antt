-- What a crash leaves while a file is made anew, or its gate is closed.
use Rattle.std.proofs.Common.{◌≡◌, ℕ, ◌+◌, ◌≤◌, Bool, true, false, List, [], ◌∷◌, ◌++◌, length, take, drop, refl, sym, ◌∙◌, ap, subst, arith, length-append, length-take}
use Rattle.std.specs.Prelude.{min, if◌then◌else◌, unwrap_or, Option, None, Some}
use Rattle.std.specs.List.{flat_map}
use Rattle.std.proofs.lemmas.List.{drop_more, drop_all, take_at}
use Rattle.std.proofs.lemmas.Option.{get_or_from_slice_get}
use Rattle.record_disk.specs.Disk.{Trace, content, Torn, AllImages, Throughout, Here, Told, Keeps, IsDurable, Tears}
use Rattle.record_log.specs.Frames.{Frames, New, Foreign, Framed, frames, payloads_of, gate_of, end_of, EndsAt, HoldsFrames, IsLong, framed, magic, head_of}
use Rattle.record_log.specs.Log.{at_rest, IsAtRest, HasFront, HasTail}
use Rattle.record_disk.proofs.Moments.{weaker}
use Rattle.record_log.proofs.Reading.{frames_short}
use Rattle.record_log.proofs.Parsing.{AreBytes}
use Rattle.record_log.proofs.Parts.{parts, new_is_short}
use Rattle.record_log.proofs.Calls.{Undoing, told_same}

abbrev pub IsFew : List ℕ → Type 0
IsFew image = length image ≤ 9

few_holds : (image : List ℕ) → IsFew image → HoldsFrames [] image
few_holds image few = ap payloads_of (frames_short image few)

pub renew_keeps : (s t : Trace) → Tears 0 9 s t → AllImages IsFew s → Keeps (HoldsFrames []) s t
renew_keeps s t tears few = record {
  moments = weaker _ (HoldsFrames []) s t (λ c from. few_holds c (torn_few c from.0 (few from.0 from.1) from.2)) tears.moments;
  image = tears.image;
}
  where
    torn_few : (c from : List ℕ) → IsFew from → Torn 0 9 from c → IsFew c
    torn_few c from is torn = omega (arith, torn.no_longer, is)

-- a write makes no image shorter
pub renew_longer : (s t : Trace) → Tears 0 9 s t → (n : ℕ) → AllImages (IsLong n) s → Throughout (IsLong n) s t
renew_longer s t tears n long = weaker _ (IsLong n) s t (λ c from. torn_long c from.0 (long from.0 from.1) from.2) tears.moments
  where
    torn_long : (c from : List ℕ) → IsLong n from → Torn 0 9 from c → IsLong n c
    torn_long c from is torn = omega (arith, torn.no_shorter, is)

-- the frames of payloads stand after the magic
head_long : (ps : List (List ℕ)) → IsLong 8 (head_of ps)
head_long ps = omega (arith, length-append magic (flat_map framed ps))

front_long : (ps : List (List ℕ)) (c : List ℕ) → take (length (head_of ps)) c ≡ head_of ps → IsLong 8 c
front_long ps c front = omega (arith, ap length front, length-take (length (head_of ps)) c, head_long ps)

abbrev the : Option (List (List ℕ)) → List (List ℕ)
the None = []
the (Some x) = x

-- a file holds one list of payloads
pub one_list : (file : List ℕ) (ps qs : List (List ℕ)) → HoldsFrames ps file → HoldsFrames qs file → ps ≡ qs
one_list file ps qs one two = ap the (sym one ∙ two)

module _ (bytes : List ℕ) (gate : ℕ) (are : AreBytes bytes) (is : gate_of (frames bytes) ≡ Some gate) where
  rests_now : EndsAt gate bytes → (s : Trace) → IsDurable bytes s → (ps : List (List ℕ)) → HoldsFrames ps bytes → IsAtRest gate ps s
  rests_now ends s durable ps holds =
      let them = parts bytes gate are is in
      let same : them.payloads ≡ ps = one_list bytes them.payloads ps them.holds holds in
      let last : drop gate bytes ≡ 0 ∷ [] =
      drop_more bytes gate 0 (omega (arith, ends.size)) ∙ (λ i. get_or_from_slice_get bytes gate 0 0 ends.closed i ∷ drop_all (gate + 1) bytes (omega (arith, ends.size)) i) in
      let rest : bytes ≡ at_rest them.payloads = them.split ∙ ap (λ (l : List ℕ). head_of them.payloads ++ l) last in
      subst (λ qs. IsAtRest gate qs s) same (record { durable = subst (λ f. IsDurable f s) rest durable; place = them.place; short = them.short })

  hangs_now : (s : Trace) → IsDurable bytes s → (ps : List (List ℕ)) → HoldsFrames ps bytes → HasTail gate ps None s
  hangs_now s durable ps holds =
      let them = parts bytes gate are is in
      let same : them.payloads ≡ ps = one_list bytes them.payloads ps them.holds holds in
      let front : take (length (head_of them.payloads)) bytes ≡ head_of them.payloads = ap (λ (l : List ℕ). take (length (head_of them.payloads)) l) them.split ∙ take_at (head_of them.payloads) (drop gate bytes) (length (head_of them.payloads)) refl in
      let stands : HasFront them.payloads None bytes = record { front = front; holds = them.holds } in
      subst (λ qs. HasTail gate qs None s) same (record {
        all = λ c image. subst (HasFront them.payloads None) (sym (durable.only c image)) stands;
        image = durable.image;
        place = them.place;
        short = them.short;
      })

  pub close_moments : (s t : Trace) → Undoing gate s t → IsDurable bytes s → (ps : List (List ℕ)) → HoldsFrames ps bytes → Keeps (HoldsFrames ps) s t
  close_moments s t undoing durable ps holds =
      let kept = undoing ps None (hangs_now s durable ps holds) in
      record { moments = weaker (HasFront ps None) (HoldsFrames ps) s t (λ c front. front.holds) kept.moments; image = kept.image }

  pub close_rests : (s t : Trace) → ((ps : List (List ℕ)) (pending : Option (List ℕ)) → HasTail gate ps pending s → IsAtRest gate ps t) → IsDurable bytes s → (ps : List (List ℕ)) → HoldsFrames ps bytes → IsAtRest gate ps t
  close_rests s t undone durable ps holds = undone ps None (hangs_now s durable ps holds)

  pub close_none : (s : Trace) → IsDurable bytes s → (ps : List (List ℕ)) → HoldsFrames ps bytes → Keeps (HoldsFrames ps) s s
  close_none s durable ps holds = record { moments = Here (λ c image. subst (HoldsFrames ps) (sym (durable.only c image)) holds); image = durable.image }

  bytes_long : IsLong 8 bytes
  bytes_long =
      let them = parts bytes gate are is in
      omega (arith, ap length them.split, length-append (head_of them.payloads) (drop gate bytes), head_long them.payloads)

  pub close_longer : (s t : Trace) → Undoing gate s t → IsDurable bytes s → Throughout (IsLong 8) s t
  close_longer s t undoing durable =
      let them = parts bytes gate are is in
      let kept = undoing them.payloads None (hangs_now s durable them.payloads them.holds) in
      weaker (HasFront them.payloads None) (IsLong 8) s t (λ c front. front_long them.payloads c front.front) kept.moments

  pub close_long : (a : Option Trace) → Told a a (λ s t. IsDurable bytes s → Throughout (IsLong 8) s t)
  close_long a = told_same a (λ s t. IsDurable bytes s → Throughout (IsLong 8) s t) (λ s durable. Here (λ c image. subst (IsLong 8) (sym (durable.only c image)) bytes_long))

  -- where nothing has to be done
  pub close_told : (a : Option Trace) → Told a a (λ s t. IsDurable bytes s → (ps : List (List ℕ)) → HoldsFrames ps bytes → Keeps (HoldsFrames ps) s t)
  close_told a = told_same a (λ s t. IsDurable bytes s → (ps : List (List ℕ)) → HoldsFrames ps bytes → Keeps (HoldsFrames ps) s t) close_none

  pub close_done : EndsAt gate bytes → (a : Option Trace) → Told a a (λ s t. IsDurable bytes s → (ps : List (List ℕ)) → HoldsFrames ps bytes → IsAtRest gate ps t)
  close_done ends a = told_same a (λ s t. IsDurable bytes s → (ps : List (List ℕ)) → HoldsFrames ps bytes → IsAtRest gate ps t) (rests_now ends)

-- a file that holds nothing, made anew
module _ (bytes : List ℕ) (ps : List (List ℕ)) (holds : HoldsFrames ps bytes) (none : gate_of (frames bytes) ≡ None) where
  pub is_few : IsFew bytes
  is_few = new_is_short bytes ps holds none

pub fresh_rests : (bytes : List ℕ) → gate_of (frames bytes) ≡ None → (s t : Trace) → (IsFew (content s) → IsAtRest 8 [] t) → IsDurable bytes s → (qs : List (List ℕ)) → HoldsFrames qs bytes → IsAtRest 8 qs t
fresh_rests bytes none s t rests durable qs held =
    let few : IsFew bytes = is_few bytes qs held none in
    subst (λ rs. IsAtRest 8 rs t) (one_list bytes [] qs (few_holds bytes few) held) (rests (subst IsFew (sym durable.reads) few))

-- a file keeps its length, up to that of the magic, at each moment
pub fresh_longer : (bytes : List ℕ) (s t : Trace) → ((n : ℕ) → AllImages (IsLong n) s → Throughout (IsLong n) s t) → IsDurable bytes s → Throughout (IsLong (min 8 (length bytes))) s t
fresh_longer bytes s t renewed durable = renewed (min 8 (length bytes)) (λ c image. subst (IsLong (min 8 (length bytes))) (sym (durable.only c image)) (omega arith))

pub up_to_magic : (bytes : List ℕ) (s t : Trace) → (IsDurable bytes s → Throughout (IsLong 8) s t) → IsDurable bytes s → Throughout (IsLong (min 8 (length bytes))) s t
up_to_magic bytes s t closed durable = weaker (IsLong 8) (IsLong (min 8 (length bytes))) s t (λ c long. omega (arith, long)) (closed durable)

-- the gate stands after the magic
pub after_magic : (read : Frames) → 8 ≤ end_of read
after_magic New = omega arith
after_magic Foreign = omega arith
after_magic (Framed found) = by found.is_cut found.size
  where
    by : (cut : Bool) (n : ℕ) → 8 ≤ unwrap_or (if cut then None else Some (8 + n)) 8
    by true n = omega arith
    by false n = omega arith

pub gate_within : (bytes : List ℕ) (gate : ℕ) → AreBytes bytes → gate_of (frames bytes) ≡ Some gate → gate ≤ length bytes
gate_within bytes gate are is =
    let them = parts bytes gate are is in
    omega (arith, them.place, ap length them.split, length-append (head_of them.payloads) (drop gate bytes))
