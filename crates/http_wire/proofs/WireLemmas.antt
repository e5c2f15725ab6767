-- Parts of a buffer, and what a stream begins with by what a wire holds of it.
use Rattle.std.proofs.Common.{◌≡◌, ℕ, ◌+◌, ◌-◌, ◌≤◌, ◌<◌, ◌⊎◌, inl, inr, List, ◌++◌, length, take, drop, slice_range, [], Option, Some, None, Ok, Err, true, false, refl, sym, ap, ◌∙◌, subst, arith, append-nil, append_assoc, length-append}
use Rattle.std.proofs.Math.Seq.{take-append-add}
use Rattle.std.proofs.lemmas.List.{drop-drop, drop-take, drop_all, length-take-le, nil_from_length, take-append-drop, take-append-le, take-take, take_all, take_at}
use Rattle.std.proofs.lemmas.Bool.{cases_lt}
use Rattle.std.specs.List.{list_all}
use Rattle.std.specs.Option.{option_map}
use Rattle.httparse.proofs.RunLemmas.{length-slice_range}
use Rattle.outside.specs.Told.{IsAtEnd, in_front}
use Rattle.http_wire.specs.Front.{Clean, Cut, Front, Whole, front, is_line_byte, judged, unfinished}
use Rattle.http_wire.specs.Head.{Head}
use Rattle.http_wire.specs.Held.{Grows}
use Rattle.http_wire.specs.Parsed.{IsJudged, IsTaken}
use Rattle.http_wire.specs.Search.{IsHeadAt}
use Rattle.http_wire.specs.declared.faults.HeadFault.{HeadFault}
use Rattle.http_wire.proofs.FrontLemmas.{front_found}
use Rattle.http_wire.proofs.ParsedLemmas.{judged_spelled}
use Rattle.http_wire.specs.Stream.{BeginsWith, unread}

-- a slice from which the first n are dropped
pub slice_range-add : (buffer : List ℕ) (start end n : ℕ) → start + n ≤ end
    → slice_range buffer (start + n) end ≡ drop n (slice_range buffer start end)
slice_range-add buffer start end n fits =
    let rest : end - start ≡ n + (end - (start + n)) = omega arith in
    rw (rest, drop-take n (end - (start + n)) (drop start buffer)) (ap (λ (l : List ℕ). take (end - (start + n)) l) (sym (drop-drop n start buffer)))

-- a slice that was moved to the front
pub take-moved : (buffer moved : List ℕ) (start end : ℕ) → start ≤ end → end ≤ length buffer
    → moved ≡ drop start (take end buffer) ++ take start (take end buffer)
    → take (end - start) (moved ++ drop end buffer) ≡ slice_range buffer start end
take-moved buffer moved start end ordered within is =
    let whole : end ≡ start + (end - start) = omega arith in
    let part : drop start (take end buffer) ≡ slice_range buffer start end
    = ap (λ (n : ℕ). drop start (take n buffer)) whole ∙ drop-take start (end - start) buffer in
    let behind = take start (take end buffer) ++ drop end buffer in
    let split : moved ++ drop end buffer ≡ slice_range buffer start end ++ behind
    = ap (λ (l : List ℕ). l ++ drop end buffer) is ∙ append_assoc (drop start (take end buffer)) (take start (take end buffer)) (drop end buffer)
    ∙ ap (λ (l : List ℕ). l ++ behind) part in
    ap (λ (l : List ℕ). take (end - start) l) split
    ∙ take_at (slice_range buffer start end) behind (end - start) (length-slice_range buffer start end ordered within)

-- what was read after the bytes at the front
pub grown : (buffer held : List ℕ) (kept count : ℕ) (left left_after : Option (List ℕ)) → take kept buffer ≡ held
    → kept + count ≤ length buffer → left ≡ in_front (slice_range buffer kept (kept + count)) left_after
    → Grows held left (slice_range buffer 0 (kept + count)) left_after count
grown buffer held kept count left left_after front_kept fits from =
    let size : (kept + count) - kept ≡ count = omega arith in
    let all : (kept + count) - 0 ≡ kept + count = omega arith in
    let front_of = take (kept + count) buffer in (
      slice_range buffer kept (kept + count),
      length-slice_range buffer kept (kept + count) (omega arith) fits ∙ size,
      ap (λ (n : ℕ). take n buffer) all
          ∙ sym (take-append-drop kept front_of)
          ∙ ap (λ (l : List ℕ). l ++ drop kept front_of) (take-take kept (kept + count) buffer (omega arith) ∙ front_kept)
          ∙ ap (λ (l : List ℕ). held ++ l) (drop-take kept count buffer ∙ ap (λ (n : ℕ). take n (drop kept buffer)) (sym size)),
      from,
    )

-- ---- a stream that tells its bytes

-- what is held decides what the stream begins with
pub told_front : (held : List ℕ) (left before : Option (List ℕ)) (what : Front) → unread held left ≡ before
    → ((more : List ℕ) → front (held ++ more) ≡ what) → BeginsWith before what
told_front held left before what kept is = subst (λ (o : Option (List ℕ)). BeginsWith o what) kept (by_left left)
  where
    by_left : (o : Option (List ℕ)) → BeginsWith (unread held o) what
    by_left None = tt
    by_left (Some more) = is more

-- a head is taken off
pub told_whole : (held held_after : List ℕ) (left before : Option (List ℕ)) (head : Head) → unread held left ≡ before
    → ((more : List ℕ) → front (held ++ more) ≡ Whole head (held_after ++ more))
    → option_map front before ≡ option_map (λ rest. Whole head rest) (unread held_after left)
told_whole held held_after left before head kept is = ap (option_map front) (sym kept) ∙ by_left left
  where
    by_left : (o : Option (List ℕ)) → option_map front (unread held o) ≡ option_map (λ rest. Whole head rest) (unread held_after o)
    by_left None = refl
    by_left (Some more) = ap Some (is more)

-- the source is at its end
pub told_end : (held : List ℕ) (left before : Option (List ℕ)) (what : Front) → unread held left ≡ before
    → IsAtEnd left → front held ≡ what → BeginsWith before what
told_end held left before what kept ended is = subst (λ (o : Option (List ℕ)). BeginsWith o what) kept (by_left left ended)
  where
    by_left : (o : Option (List ℕ)) → IsAtEnd o → BeginsWith (unread held o) what
    by_left None end = tt
    by_left (Some more) end = ap (λ (l : List ℕ). front (held ++ l)) end ∙ ap front (append-nil held) ∙ is

-- the end of the stream between requests, or inside a head
pub unfinished_clean : (held : List ℕ) → list_all is_line_byte held ≡ true → unfinished held ≡ Clean
unfinished_clean held all = rw all refl

pub unfinished_cut : (held : List ℕ) → list_all is_line_byte held ≡ false → unfinished held ≡ Cut
unfinished_cut held all = rw all refl

-- ---- a head that is held

pub taken_whole : (held lent after : List ℕ) (start end : ℕ) (head : Head) → length held ≤ 8192 → IsHeadAt held start end
    → lent ≡ held → IsJudged (slice_range lent start end) (Ok head) → after ≡ drop end held → IsTaken held after (Ok head)
taken_whole held lent after start end head room at same whole rest =
    let bytes : slice_range lent start end ≡ slice_range held start end = ap (λ (l : List ℕ). slice_range l start end) same in (
      λ more. front_found held more start end room at
          ∙ ap (λ (l : List ℕ). judged l (drop end held ++ more)) (sym bytes)
          ∙ whole (drop end held ++ more)
          ∙ ap (λ (l : List ℕ). Whole head (l ++ more)) (sym rest),
      (slice_range lent start end, judged_spelled (slice_range lent start end) [] head (whole [])),
    )

pub taken_refused : (held lent after : List ℕ) (start end : ℕ) (fault : HeadFault) → length held ≤ 8192 → IsHeadAt held start end
    → lent ≡ held → IsJudged (slice_range lent start end) (Err fault) → after ≡ held → IsTaken held after (Err fault)
taken_refused held lent after start end fault room at same bad rest = (
  λ more. front_found held more start end room at
      ∙ ap (λ (l : List ℕ). judged (slice_range l start end) (drop end held ++ more)) (sym same)
      ∙ bad (drop end held ++ more),
  rest,
)

pub taken_none : (held lent : List ℕ) (start end : ℕ) → length held ≤ 8192 → IsHeadAt held start end → lent ≡ held
    → (head : Head) × ((rest : List ℕ) → judged (slice_range lent start end) rest ≡ Whole head rest)
    → (more : List ℕ) → (head : Head) × (rest : List ℕ) × (front (held ++ more) ≡ Whole head rest)
taken_none held lent start end room at same whole more = (
  whole.0,
  drop end held ++ more,
  front_found held more start end room at
      ∙ ap (λ (l : List ℕ). judged (slice_range l start end) (drop end held ++ more)) (sym same)
      ∙ whole.1 (drop end held ++ more),
)

-- ---- a body

-- what was read after the bytes that had come, into room that was filled up with zeros; the rest is cut off
pub came_behind : (held zeros row lent buffer past behind after : List ℕ) (size count asked end : ℕ) (left left_after : Option (List ℕ))
    → length held ≡ size → size ≤ asked → lent ≡ row → row ≡ take asked held ++ zeros → count ≤ length buffer → size + count ≤ end
    → after ≡ take (size + count) (take end ((take size lent ++ (buffer ++ past)) ++ behind)) → left ≡ in_front (take count buffer) left_after
    → Grows held left after left_after count
came_behind held zeros row lent buffer past behind after size count asked end left left_after is ordered lends sized given fits cut from = (
  take count buffer,
  length-take-le count buffer given,
  cut ∙ take-take (size + count) end ((take size lent ++ (buffer ++ past)) ++ behind) fits
      ∙ ap (λ (l : List ℕ). take (size + count) ((l ++ (buffer ++ past)) ++ behind)) front
      ∙ ap (λ (l : List ℕ). take (size + count) l) (append_assoc held (buffer ++ past) behind)
      ∙ ap (λ (n : ℕ). take (n + count) (held ++ ((buffer ++ past) ++ behind))) (sym is)
      ∙ take-append-add held ((buffer ++ past) ++ behind) count
      ∙ ap (λ (l : List ℕ). held ++ take count l) (append_assoc buffer past behind)
      ∙ ap (λ (l : List ℕ). held ++ l) (take-append-le count buffer (past ++ behind) given),
  from,
)
  where
    front : take size lent ≡ held
    front = ap (λ (l : List ℕ). take size l) (lends ∙ sized ∙ ap (λ (l : List ℕ). l ++ zeros) (take_all asked held (omega arith)))
        ∙ take_at held zeros size is

-- it is the front of what is held, and then what the source gave
pub body_given : (held first body after : List ℕ) (count n : ℕ) (left left_after : Option (List ℕ)) → first ≡ take count held
    → after ≡ drop count held → Grows first left body left_after n → length body ≡ count
    → unread held left ≡ in_front body (unread after left_after)
body_given held first body after count n left left_after front rest grows all =
    ap (unread held) grows.3 ∙ by_left left_after (cases_lt (length held) count)
  where
    given : List ℕ
    given = grows.0

    parts : body ≡ take count held ++ given
    parts = grows.2 ∙ ap (λ (l : List ℕ). l ++ given) front

    swap_parts : (more : List ℕ) → (length held < count) ⊎ (count ≤ length held)
        → held ++ (given ++ more) ≡ (take count held ++ given) ++ (drop count held ++ more)
    swap_parts more (inl short) =
        let whole_front : take count held ≡ held = take_all count held (omega arith) in
        let none : drop count held ≡ [] = drop_all count held (omega arith) in
        rw (whole_front, none) (sym (append_assoc held given more))
    swap_parts more (inr long) =
        let lengths = ap (λ (l : List ℕ). length l) parts ∙ length-append (take count held) given in
        let nothing : given ≡ [] = nil_from_length given (omega (arith, lengths, all, length-take-le count held long)) in
        rw nothing (ap (λ (l : List ℕ). l ++ more) (sym (take-append-drop count held))
        ∙ append_assoc (take count held) (drop count held) more
        ∙ ap (λ (l : List ℕ). l ++ (drop count held ++ more)) (sym (append-nil (take count held))))

    by_left : (o : Option (List ℕ)) → (length held < count) ⊎ (count ≤ length held)
        → unread held (in_front given o) ≡ in_front body (unread after o)
    by_left None lengths = refl
    by_left (Some more) lengths = ap Some (swap_parts more lengths ∙ ap (λ (l : List ℕ). l ++ (drop count held ++ more)) (sym parts)
        ∙ ap (λ (l : List ℕ). body ++ (l ++ more)) (sym rest))

-- what is gone before the source failed: what was held, and what the source gave
pub body_gone : (held gone : List ℕ) (left left_after : Option (List ℕ)) → left ≡ in_front gone left_after
    → unread held left ≡ in_front (held ++ gone) left_after
body_gone held gone left left_after from = ap (unread held) from ∙ by_left left_after
  where
    by_left : (o : Option (List ℕ)) → unread held (in_front gone o) ≡ in_front (held ++ gone) o
    by_left None = refl
    by_left (Some more) = ap Some (sym (append_assoc held gone more))

-- bytes that come after others that came
pub came_on : (first second third : List ℕ) (n m : ℕ) (a b c : Option (List ℕ)) → Grows first a second b n → Grows second b third c m
    → Grows first a third c (n + m)
came_on first second third n m a b c one two = (
  one.0 ++ two.0,
  length-append one.0 two.0 ∙ ap (λ (k : ℕ). k + length two.0) one.1 ∙ ap (λ (k : ℕ). n + k) two.1,
  two.2 ∙ ap (λ (l : List ℕ). l ++ two.0) one.2 ∙ append_assoc first one.0 two.0,
  one.3 ∙ body_gone one.0 two.0 b c two.3,
)

-- nothing in front
pub in_front-none : (told : Option (List ℕ)) → told ≡ in_front [] told
in_front-none None = refl
in_front-none (Some bytes) = refl
