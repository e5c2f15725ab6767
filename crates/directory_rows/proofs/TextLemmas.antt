-- Texts in byte order: which of them lie between a text and another.
use Rattle.std.proofs.Common.{◌≡◌, ℕ, ◌<◌, true, false, List, [], ◌∷◌, ◌++◌, Ordering, Less, Equal, Greater, nat_cmp, refl, sym, ap, ◌∙◌, arith, ◌⊎◌, inl, inr, ⊎_elim}
use Rattle.std.proofs.lemmas.Bool.{false≢true, both_ways, or_parts, eq-eqb}
use Rattle.std.proofs.lemmas.Cmp.{ranked, tied_itself, nat_cmp_total, upto}
use Rattle.std.specs.Cmp.Lexicographic.{nat_list_cmp_total}
use Rattle.std.specs.Ordering.{is_gt, is_le, is_lt, ordering_reverse, ordering_then}
use Rattle.mvn_coords.proofs.Cuts.{slash}
use Rattle.mvn_coords.proofs.Levels.{Whole}
pub use Rattle.ordered_rows.proofs.Rising.{cmp}

abbrev pub UpTo : List ℕ → List ℕ → Type 0
UpTo a b = is_le (cmp a b) ≡ true

-- what both begin with tells nothing
pub cmp-append : (x a b : List ℕ) → cmp (x ++ a) (x ++ b) ≡ cmp a b
cmp-append [] a b = refl
cmp-append (c ∷ x) a b = ap (λ o. ordering_then o (cmp (x ++ a) (x ++ b))) (tied_itself nat_cmp_total c) ∙ cmp-append x a b

pub UpTo-append : (x a b : List ℕ) → UpTo (x ++ a) (x ++ b) → UpTo a b
UpTo-append x a b h = ap is_le (sym (cmp-append x a b)) ∙ h

pub append-UpTo : (x a b : List ℕ) → UpTo a b → UpTo (x ++ a) (x ++ b)
append-UpTo x a b h = ap is_le (cmp-append x a b) ∙ h

pub UpTo-front : (x a : List ℕ) → UpTo x (x ++ a)
UpTo-front [] [] = refl
UpTo-front [] (c ∷ a) = refl
UpTo-front (c ∷ x) a = ap (λ o. is_le (ordering_then o (cmp x (x ++ a)))) (tied_itself nat_cmp_total c) ∙ UpTo-front x a

not_gt : (o : Ordering) → is_le o ≡ true → is_gt o ≡ false
not_gt Less h = refl
not_gt Equal h = refl
not_gt Greater h = absurd (false≢true h)

is_le-from : (o : Ordering) → is_gt o ≡ false → is_le o ≡ true
is_le-from Less h = refl
is_le-from Equal h = refl
is_le-from Greater h = absurd (false≢true (sym h))

pub UpTo-trans : (a b c : List ℕ) → UpTo a b → UpTo b c → UpTo a c
UpTo-trans a b c p q = is_le-from (cmp a c) (upto nat_list_cmp_total a b c (not_gt (cmp a b) p) (not_gt (cmp b c) q))

less_upto : (o : Ordering) → o ≡ Less → is_le o ≡ true
less_upto o h = ap is_le h

pub UpTo-less : (a b : List ℕ) → cmp a b ≡ Less → UpTo a b
UpTo-less a b h = less_upto (cmp a b) h

-- no text lies before one that lies before it
pub not_before : (a b : List ℕ) → cmp a b ≡ Less → UpTo b a → ⊥
not_before a b h up = false≢true (sym (ap is_le (nat_list_cmp_total.antisymm b a ∙ ap ordering_reverse h)) ∙ up)

pub before_trans : (a b c : List ℕ) → UpTo a b → cmp b c ≡ Less → cmp a c ≡ Less
before_trans a b c p h = by_order (cmp a c) refl
  where
    by_order : (o : Ordering) → cmp a c ≡ o → o ≡ Less
    by_order Less e = refl
    by_order Equal e = absurd (not_before b c h (UpTo-trans c a b (ap is_le (nat_list_cmp_total.antisymm c a ∙ ap ordering_reverse e)) p))
    by_order Greater e = absurd (not_before b c h (UpTo-trans c a b (ap is_le (nat_list_cmp_total.antisymm c a ∙ ap ordering_reverse e)) p))

upto_next : (n : ℕ) (xs : List ℕ) → 47 < n → is_le (ordering_then (nat_cmp 48 n) (cmp [] xs)) ≡ true
upto_next n xs h = by_order (nat_cmp 48 n) refl
  where
    by_order : (o : Ordering) → nat_cmp 48 n ≡ o → is_le (ordering_then o (cmp [] xs)) ≡ true
    by_order Less e = refl
    by_order Equal e = UpTo-front [] xs
    by_order Greater e = let less : n < 48 = ranked 48 n Greater (sym e) in absurd (omega (arith, less, h))

no_slash : (n : ℕ) (xs : List ℕ) → Whole (n ∷ xs) → 47 ≡ n → ⊥
no_slash n xs whole e = both_ways (slash n) (or_parts (slash n) _ whole).0 (eq-eqb n 47 (sym e))

-- a segment that does not lie before what stands below b/ lies after all of that
pub segment_after : (b u name : List ℕ) → Whole name → UpTo (b ++ 47 ∷ u) name → UpTo (b ++ 48 ∷ []) name
segment_after [] u [] whole up = absurd (false≢true up)
segment_after [] u (n ∷ ns) whole up = by_order (nat_cmp 47 n) refl up
  where
    by_order : (o : Ordering) → nat_cmp 47 n ≡ o → is_le (ordering_then o (cmp u ns)) ≡ true → UpTo (48 ∷ []) (n ∷ ns)
    by_order Less e h = upto_next n ns (ranked 47 n Less (sym e))
    by_order Equal e h = absurd (no_slash n ns whole (ranked 47 n Equal (sym e)))
    by_order Greater e h = absurd (false≢true h)
segment_after (c ∷ b) u [] whole up = absurd (false≢true up)
segment_after (c ∷ b) u (n ∷ ns) whole up = by_order (nat_cmp c n) (segment_after b u ns (or_parts (slash n) _ whole).1) up
  where
    by_order : (o : Ordering) → (UpTo (b ++ 47 ∷ u) ns → UpTo (b ++ 48 ∷ []) ns) → is_le (ordering_then o (cmp (b ++ 47 ∷ u) ns)) ≡ true → is_le (ordering_then o (cmp (b ++ 48 ∷ []) ns)) ≡ true
    by_order Less rest h = refl
    by_order Equal rest h = rest h
    by_order Greater rest h = absurd (false≢true h)

-- what does not lie before what stands below a/ stands there too, or lies after all of that
pub below_or_after : (a t v x : List ℕ) → Whole a → Whole v → UpTo (a ++ 47 ∷ t) (v ++ 47 ∷ x) → (v ≡ a) ⊎ UpTo (a ++ 48 ∷ []) (v ++ 47 ∷ x)
below_or_after [] t [] x whole_a whole up = inl refl
below_or_after [] t (n ∷ v) x whole_a whole up = by_order (nat_cmp 47 n) refl up
  where
    by_order : (o : Ordering) → nat_cmp 47 n ≡ o → is_le (ordering_then o (cmp t (v ++ 47 ∷ x))) ≡ true → (n ∷ v ≡ []) ⊎ UpTo (48 ∷ []) (n ∷ v ++ 47 ∷ x)
    by_order Less e h = inr (upto_next n (v ++ 47 ∷ x) (ranked 47 n Less (sym e)))
    by_order Equal e h = absurd (no_slash n v whole (ranked 47 n Equal (sym e)))
    by_order Greater e h = absurd (false≢true h)
below_or_after (c ∷ a) t [] x whole_a whole up = by_order (nat_cmp c 47) refl up
  where
    by_order : (o : Ordering) → nat_cmp c 47 ≡ o → is_le (ordering_then o (cmp (a ++ 47 ∷ t) x)) ≡ true → ([] ≡ c ∷ a) ⊎ (is_le (ordering_then (nat_cmp c 47) (cmp (a ++ 48 ∷ []) x)) ≡ true)
    by_order Less e h = inr (ap (λ o. is_le (ordering_then o (cmp (a ++ 48 ∷ []) x))) e)
    by_order Equal e h = absurd (no_slash c a whole_a (sym (ranked c 47 Equal (sym e))))
    by_order Greater e h = absurd (false≢true h)
below_or_after (c ∷ a) t (n ∷ v) x whole_a whole up =
    by_order (nat_cmp c n) refl (below_or_after a t v x (or_parts (slash c) _ whole_a).1 (or_parts (slash n) _ whole).1) up
  where
    by_order : (o : Ordering) → nat_cmp c n ≡ o → (UpTo (a ++ 47 ∷ t) (v ++ 47 ∷ x) → (v ≡ a) ⊎ UpTo (a ++ 48 ∷ []) (v ++ 47 ∷ x)) → is_le (ordering_then o (cmp (a ++ 47 ∷ t) (v ++ 47 ∷ x))) ≡ true → (n ∷ v ≡ c ∷ a) ⊎ (is_le (ordering_then (nat_cmp c n) (cmp (a ++ 48 ∷ []) (v ++ 47 ∷ x))) ≡ true)
    by_order Less e rest h = inr (ap (λ o. is_le (ordering_then o (cmp (a ++ 48 ∷ []) (v ++ 47 ∷ x)))) e)
    by_order Equal e rest h =
        ⊎_elim (λ same. inl (ap (λ m. m ∷ v) (sym (ranked c n Equal (sym e))) ∙ ap (λ w. c ∷ w) same))
        (λ behind. inr (ap (λ o. is_le (ordering_then o (cmp (a ++ 48 ∷ []) (v ++ 47 ∷ x)))) e ∙ behind))
        (rest h)
    by_order Greater e rest h = absurd (false≢true h)

-- what does not begin with w and does not lie before w lies after all that begins with it
pub after_front : (w p : List ℕ) → ((x : List ℕ) → p ≡ w ++ x → ⊥) → UpTo w p → (x : List ℕ) → cmp (w ++ x) p ≡ Less
after_front [] p other up x = absurd (other p refl)
after_front (c ∷ w) [] other up x = absurd (false≢true up)
after_front (c ∷ w) (n ∷ p) other up x = by_order (nat_cmp c n) refl (λ apart h. after_front w p apart h x) up
  where
    by_order : (o : Ordering) → nat_cmp c n ≡ o → (((y : List ℕ) → p ≡ w ++ y → ⊥) → UpTo w p → cmp (w ++ x) p ≡ Less) → is_le (ordering_then o (cmp w p)) ≡ true
        → ordering_then (nat_cmp c n) (cmp (w ++ x) p) ≡ Less
    by_order Less e rest h = ap (λ o. ordering_then o (cmp (w ++ x) p)) e
    by_order Equal e rest h =
        ap (λ o. ordering_then o (cmp (w ++ x) p)) e
        ∙ rest (λ y is. other y (ap (λ m. m ∷ p) (sym (ranked c n Equal (sym e))) ∙ ap (λ q. c ∷ q) is)) h
    by_order Greater e rest h = absurd (false≢true h)

-- what does not lie before another text has it at or before itself
pub not_less : (a b : List ℕ) → is_lt (cmp a b) ≡ false → UpTo b a
not_less a b h = ap is_le (nat_list_cmp_total.antisymm b a) ∙ by_order (cmp a b) h
  where
    by_order : (o : Ordering) → is_lt o ≡ false → is_le (ordering_reverse o) ≡ true
    by_order Less e = absurd (false≢true (sym e))
    by_order Equal e = refl
    by_order Greater e = refl
