-- What a stream begins with, by a front of it.
use Rattle.std.proofs.Common.{◌≡◌, ℕ, ◌+◌, ◌-◌, ◌<◌, ◌≤◌, ◌⊎◌, inl, inr, Bool, true, false, ltb, cond, List, ◌++◌, length, take, drop, slice_range, Option, Some, None, refl, sym, ap, ◌∙◌, subst, arith, append-nil, append_assoc, length-append, length-drop, length-take}
use Rattle.std.specs.Prelude.{IfSome, count_by, ◌==◌}
use Rattle.std.proofs.Math.Seq.{take-append-add}
use Rattle.std.proofs.lemmas.Bool.{cases_lt, le-ltb, lt-ltb}
use Rattle.std.proofs.lemmas.List.{drop-append-le, take-append-drop, take-append-le, take_all}
use Rattle.std.specs.List.{list_all}
use Rattle.http_wire.specs.Front.{Bad, Clean, Cut, Front, Whole, front, front_at, head_place, is_line_byte, judged, unfinished, whole_of}
use Rattle.http_wire.specs.Head.{Head, head_of}
use Rattle.http_wire.specs.Search.{IsHeadAt}
use Rattle.http_wire.specs.declared.faults.HeadFault.{HeadFault}
use Rattle.http_wire.specs.declared.faults.HeadFault.TheVariants.{TooLong}
use Rattle.http_wire.proofs.StayLemmas.{IsPlaceIn, head_place_stays, head_place_within}

-- the first n of two lists, the first of which isn't longer
take-over : (n : ℕ) (bytes more : List ℕ) → length bytes ≤ n → take n (bytes ++ more) ≡ bytes ++ take (n - length bytes) more
take-over n bytes more le =
    let sum : n ≡ length bytes + (n - length bytes) = omega arith in
    ap (λ (k : ℕ). take k (bytes ++ more)) sum ∙ take-append-add bytes more (n - length bytes)

slice_range-append : (bytes more : List ℕ) (start end : ℕ) → start ≤ end → end ≤ length bytes
    → slice_range (bytes ++ more) start end ≡ slice_range bytes start end
slice_range-append bytes more start end ordered within =
    ap (λ (l : List ℕ). take (end - start) l) (drop-append-le start bytes more (omega arith))
    ∙ take-append-le (end - start) (drop start bytes) more (omega (arith, length-drop start bytes))

-- the head at a place that is known
pub front-at : (bytes : List ℕ) (place : Option (ℕ × ℕ)) → head_place (take 8192 bytes) ≡ place → front bytes ≡ front_at bytes place
unfolding front
front-at bytes place is = ap (front_at bytes) is

-- a whole head is held, and more bytes are after
pub front_found : (held more : List ℕ) (start end : ℕ) → length held ≤ 8192 → IsHeadAt held start end
    → front (held ++ more) ≡ judged (slice_range held start end) (drop end held ++ more)
front_found held more start end room h =
    let seen : take 8192 (held ++ more) ≡ take end held ++ (drop end held ++ take (8192 - length held) more)
    = take-over 8192 held more room ∙ ap (λ (l : List ℕ). l ++ take (8192 - length held) more) (sym (take-append-drop end held))
    ∙ append_assoc (take end held) (drop end held) (take (8192 - length held) more) in
    let place = ap head_place seen ∙ h.place (drop end held ++ take (8192 - length held) more) in
    front-at (held ++ more) (Some (start, end)) place
    ∙ ap (λ (l : List ℕ). judged l (drop end (held ++ more))) (slice_range-append held more start end (omega (arith, h.ordered)) h.within)
    ∙ ap (judged (slice_range held start end)) (drop-append-le end held more h.within)

-- a full wire with no whole head
pub front_full : (held more : List ℕ) → length held ≡ 8192 → head_place held ≡ None → front (held ++ more) ≡ Bad TooLong
front_full held more full none =
    let seen : take 8192 (held ++ more) ≡ held = take-append-le 8192 held more (omega arith) ∙ take_all 8192 held (omega arith) in
    front-at (held ++ more) None (ap head_place seen ∙ none)
    ∙ long (length (held ++ more)) (omega (arith, length-append held more))
  where
    long : (n : ℕ) → 8192 ≤ n → cond (ltb n 8192) (unfinished (held ++ more)) (Bad TooLong) ≡ Bad TooLong
    long n le = rw (le-ltb n 8192 le) refl

-- the stream ends, and there is no whole head
pub front_end : (held : List ℕ) → length held < 8192 → head_place held ≡ None → front held ≡ unfinished held
front_end held room none =
    front-at held None (ap head_place (take_all 8192 held (omega arith)) ∙ none)
    ∙ short (length held) room
  where
    short : (n : ℕ) → n < 8192 → cond (ltb n 8192) (unfinished held) (Bad TooLong) ≡ unfinished held
    short n lt = rw (lt-ltb n 8192 lt) refl

-- ---- the front stays

-- the same head, or the same refusal, with more after it
pub record StaysWith (more : List ℕ) (now later : Front) : Type 0 where
  pub whole : (head : Head) (rest : List ℕ) → now ≡ Whole head rest → later ≡ Whole head (rest ++ more)
  pub bad : (fault : HeadFault) → now ≡ Bad fault → later ≡ Bad fault

whole_of_stays : (o : Option Head) (rest more : List ℕ) → StaysWith more (whole_of o rest) (whole_of o (rest ++ more))
whole_of_stays None rest more = record { whole = λ head r e. absurd (cc); bad = λ fault e. e }
whole_of_stays (Some h) rest more = record {
  whole = λ head r e. let same : rest ≡ r = cc in let heads : h ≡ head = cc in cc;
  bad = λ fault e. absurd (cc);
}

judged_stays : (bytes rest more : List ℕ) → StaysWith more (judged bytes rest) (judged bytes (rest ++ more))
unfolding judged
judged_stays bytes rest more = by_count (ltb 66 (count_by (λ b. b == 10) bytes))
  where
    by_count : (t : Bool) → StaysWith more (cond t (Bad TooLong) (whole_of (head_of bytes) rest)) (cond t (Bad TooLong) (whole_of (head_of bytes) (rest ++ more)))
    by_count true = record { whole = λ head r e. absurd (cc); bad = λ fault e. e }
    by_count false = whole_of_stays (head_of bytes) rest more

unfinished_is : (bytes : List ℕ) → (unfinished bytes ≡ Clean) ⊎ (unfinished bytes ≡ Cut)
unfinished_is bytes = by_all (list_all is_line_byte bytes)
  where
    by_all : (t : Bool) → (cond t Clean Cut ≡ Clean) ⊎ (cond t Clean Cut ≡ Cut)
    by_all true = inl refl
    by_all false = inr refl

unfinished_stays : (bytes more : List ℕ) (later : Front) → StaysWith more (unfinished bytes) later
unfinished_stays bytes more later = by_end (unfinished_is bytes)
  where
    clean_whole : (head : Head) (r : List ℕ) → Clean ≡ Whole head r → ⊥
    clean_whole head r e = cc

    clean_bad : (fault : HeadFault) → Clean ≡ Bad fault → ⊥
    clean_bad fault e = cc

    cut_whole : (head : Head) (r : List ℕ) → Cut ≡ Whole head r → ⊥
    cut_whole head r e = cc

    cut_bad : (fault : HeadFault) → Cut ≡ Bad fault → ⊥
    cut_bad fault e = cc

    by_end : (unfinished bytes ≡ Clean) ⊎ (unfinished bytes ≡ Cut) → StaysWith more (unfinished bytes) later
    by_end (inl is) = record { whole = λ head r e. absurd (clean_whole head r (sym is ∙ e)); bad = λ fault e. absurd (clean_bad fault (sym is ∙ e)) }
    by_end (inr is) = record { whole = λ head r e. absurd (cut_whole head r (sym is ∙ e)); bad = λ fault e. absurd (cut_bad fault (sym is ∙ e)) }

-- the place in a longer stream
seen_more : (bytes more : List ℕ) → take 8192 (bytes ++ more) ≡ take 8192 bytes ++ take (8192 - length bytes) more
seen_more bytes more = by_length (cases_lt 8192 (length bytes))
  where
    by_length : (8192 < length bytes) ⊎ (length bytes ≤ 8192) → take 8192 (bytes ++ more) ≡ take 8192 bytes ++ take (8192 - length bytes) more
    by_length (inl long) =
        let none : 8192 - length bytes ≡ 0 = omega arith in
        take-append-le 8192 bytes more (omega arith)
        ∙ sym (ap (λ (n : ℕ). take 8192 bytes ++ take n more) none ∙ append-nil (take 8192 bytes))
    by_length (inr short) =
        take-over 8192 bytes more short ∙ ap (λ (l : List ℕ). l ++ take (8192 - length bytes) more) (sym (take_all 8192 bytes short))

-- the same of equal fronts
along : {more : List ℕ} {a b c d : Front} → a ≡ b → c ≡ d → StaysWith more a c → StaysWith more b d
along {more} {a} {b} {c} {d} e f stays = record {
  whole = λ head r is. sym f ∙ stays.whole head r (e ∙ is);
  bad = λ fault is. sym f ∙ stays.bad fault (e ∙ is);
}

pub front_stays_with : (bytes more : List ℕ) → StaysWith more (front bytes) (front (bytes ++ more))
front_stays_with bytes more = by_place (head_place (take 8192 bytes)) refl
  where
    by_place : (o : Option (ℕ × ℕ)) → head_place (take 8192 bytes) ≡ o → StaysWith more (front bytes) (front (bytes ++ more))
    by_place (Some place) is =
        let later : head_place (take 8192 (bytes ++ more)) ≡ Some place
        = ap head_place (seen_more bytes more) ∙ head_place_stays (take 8192 bytes) (take (8192 - length bytes) more) (λ e. some_none place (sym is ∙ e)) ∙ is in
        let within : IsPlaceIn (take 8192 bytes) place
        = subst (λ (o : Option (ℕ × ℕ)). IfSome o (IsPlaceIn (take 8192 bytes))) is (head_place_within (take 8192 bytes)) in
        let end_in : place.1 ≤ length bytes = omega (arith, within.1, length-take 8192 bytes) in
        let now : front bytes ≡ judged (slice_range bytes place.0 place.1) (drop place.1 bytes) = front-at bytes (Some place) is in
        let then : front (bytes ++ more) ≡ judged (slice_range bytes place.0 place.1) (drop place.1 bytes ++ more)
        = front-at (bytes ++ more) (Some place) later
        ∙ ap (λ (l : List ℕ). judged l (drop place.1 (bytes ++ more))) (slice_range-append bytes more place.0 place.1 within.0 end_in)
        ∙ ap (judged (slice_range bytes place.0 place.1)) (drop-append-le place.1 bytes more end_in) in
        along (sym now) (sym then) (judged_stays (slice_range bytes place.0 place.1) (drop place.1 bytes) more)
      where
        some_none : (p : ℕ × ℕ) → Some p ≡ None → ⊥
        some_none p e = cc
    by_place None is = by_length (cases_lt (length bytes) 8192)
      where
        bad_whole : (head : Head) (r : List ℕ) → Bad TooLong ≡ Whole head r → ⊥
        bad_whole head r e = cc

        now : front bytes ≡ front_at bytes None
        now = front-at bytes None is

        by_length : (length bytes < 8192) ⊎ (8192 ≤ length bytes) → StaysWith more (front bytes) (front (bytes ++ more))
        by_length (inl short) =
            along (sym (now ∙ rw (lt-ltb (length bytes) 8192 short) refl)) refl (unfinished_stays bytes more (front (bytes ++ more)))
        by_length (inr long) =
            let seen : take 8192 (bytes ++ more) ≡ take 8192 bytes = take-append-le 8192 bytes more long in
            let later : front (bytes ++ more) ≡ Bad TooLong
            = front-at (bytes ++ more) None (ap head_place seen ∙ is)
            ∙ rw (le-ltb (length (bytes ++ more)) 8192 (omega (arith, length-append bytes more))) refl in
            let here : front bytes ≡ Bad TooLong = now ∙ rw (le-ltb (length bytes) 8192 long) refl in
            along (sym here) (sym later) (record { whole = λ head r e. absurd (bad_whole head r e); bad = λ fault e. e })
