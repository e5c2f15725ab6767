-- What is read from a field was written so, and what was written so is read again.
use Rattle.std.proofs.Common.{◌≡◌, ℕ, ◌+◌, ◌^◌, ◌<◌, ◌≤◌, Bool, true, false, cond, ◌&&◌, List, ◌++◌, length, get_or, take, drop, Result, Ok, Err, refl, sym, ap, subst, ◌∙◌, append_assoc, arith, inl, inr}
use Rattle.std.specs.Prelude.{nat_lt, ◌==◌}
use Rattle.std.specs.Int.{Width, w16, w32, w64, byte_len, from_be_bytes, to_be_bytes}
use Rattle.std.proofs.lemmas.Bool.{cases_lt}
use Rattle.std.proofs.lemmas.Bool.Decides.{nat_tests}
use Rattle.std.proofs.lemmas.List.{take_at, drop_at, take-append-drop, length-append, length-take, get_or-drop, get_or-take, get_or_past}
use Rattle.std.proofs.lemmas.Nat.{be_bytes_2, be_bytes_4, be_bytes_8, from_be_bytes-to_be_bytes_2, from_be_bytes-to_be_bytes_4, from_be_bytes-to_be_bytes_8}
use Rattle.row_tables.specs.Reading.{◌>>=◌, Field, of_form, then_at, number_at, bytes_at, counted_at}
use Rattle.repo_rows.proofs.Ascii.{both}

abbrev pub IsBytes : List ℕ → Type 0
IsBytes bytes = (i : ℕ) → get_or bytes i 0 < 256

pub IsBytes-drop : (n : ℕ) (bytes : List ℕ) → IsBytes bytes → IsBytes (drop n bytes)
IsBytes-drop n bytes h i = rw get_or-drop (h (n + i))

pub IsBytes-take : (n : ℕ) (bytes : List ℕ) → IsBytes bytes → IsBytes (take n bytes)
IsBytes-take n bytes h i =
    elim (cases_lt i n) [
      | inl lt ↦ rw (get_or-take n bytes i 0 lt) (h i)
      | inr le ↦ rw (get_or_past (take n bytes) i 0 (omega (arith, length-take n bytes))) (omega arith)
    ]

-- the value of a step that did not fail
pub bind_ok : {A B : Type 0} (r : Result A ℕ) (f : A → Result B ℕ) (y : B) → (r >>= f) ≡ Ok y → (x : A) × (r ≡ Ok x) × (f x ≡ Ok y)
bind_ok (Ok x) f y e = (x, refl, e)
bind_ok (Err d) f y e = absurd cc

pub guard_ok : {A : Type 0} (b : Bool) (d : ℕ) (x y : A) → cond b (Err d) (Ok x) ≡ Ok y → (b ≡ false) × (x ≡ y)
guard_ok true d x y e = absurd cc
guard_ok false d x y e = (refl, cc)

pub pass_ok : {A : Type 0} (b : Bool) (d : ℕ) (x y : A) → cond b (Ok x) (Err d) ≡ Ok y → (b ≡ true) × (x ≡ y)
pass_ok true d x y e = (refl, cc)
pass_ok false d x y e = absurd cc

abbrev done : {A : Type 0} → A → Result A ℕ
done x = Ok x

pub ok_is : {A : Type 0} (x y : A) → done x ≡ done y → x ≡ y
ok_is x y e = cc

-- what a field took from the front
pub record Taken {A : Type 0} (spell : A → List ℕ) (form : A → Bool) (bytes : List ℕ) (x : A × List ℕ) : Type 0 where
  pub parts : bytes ≡ spell x.0 ++ x.1
  pub left : IsBytes x.1
  pub fits : form x.0 ≡ true

-- how a field is written and what form it has
pub record IsField {A : Type 0} (spell : A → List ℕ) (form : A → Bool) (field : Field A) : Type 0 where
  pub takes : (bytes : List ℕ) (x : A × List ℕ) → IsBytes bytes → field bytes ≡ Ok x → Taken spell form bytes x
  pub again : (a : A) (rest : List ℕ) → form a ≡ true → field (spell a ++ rest) ≡ Ok (a, rest)

-- one field and then another
pub then_field : {A B : Type 0} (s : A → List ℕ) (f : A → Bool) (first : Field A) (t : B → List ℕ) (g : B → Bool) (second : Field B) → IsField s f first → IsField t g second
    → IsField (λ (p : A × B). s p.0 ++ t p.1) (λ (p : A × B). f p.0 && g p.1) (then_at first second)
then_field {A} {B} s f first t g second one two = record {
  takes = λ bytes x are is.
      let a = bind_ok (first bytes) (λ u. second u.1 >>= λ v. Ok ((u.0, v.0), v.1)) x is in
      let b = bind_ok (second a.0.1) (λ v. Ok ((a.0.0, v.0), v.1)) x a.2 in
      let h = one.takes bytes a.0 are a.1 in
      let k = two.takes a.0.1 b.0 h.left b.1 in
      let made : (A × B) × List ℕ = ((a.0.0, b.0.0), b.0.1) in
      let all : Taken (λ (p : A × B). s p.0 ++ t p.1) (λ (p : A × B). f p.0 && g p.1) bytes made = record {
        parts = h.parts ∙ ap (λ l. s a.0.0 ++ l) k.parts ∙ sym (append_assoc (s a.0.0) (t b.0.0) b.0.1);
        left = k.left;
        fits = λ i. h.fits i && k.fits i;
      } in
      subst (Taken (λ (p : A × B). s p.0 ++ t p.1) (λ (p : A × B). f p.0 && g p.1) bytes) (ok_is made x b.2) all;
  again = λ p rest is.
      let parts = both (f p.0) (g p.1) is in
      ap (λ l. then_at first second l) (append_assoc (s p.0) (t p.1) rest)
      ∙ ap (λ r. r >>= λ u. second u.1 >>= λ v. Ok ((u.0, v.0), v.1)) (one.again p.0 (t p.1 ++ rest) parts.0)
      ∙ ap (λ r. r >>= λ v. Ok ((p.0, v.0), v.1)) (two.again p.1 rest parts.1);
}

-- ---- numbers

pub record IsWide (w : Width) (limit : ℕ) : Type 0 where
  pub len : (n : ℕ) → length (to_be_bytes w n) ≡ byte_len w
  pub back : (bytes : List ℕ) → length bytes ≡ byte_len w → IsBytes bytes → to_be_bytes w (from_be_bytes w bytes) ≡ bytes
  pub again : (n : ℕ) → n < limit → from_be_bytes w (to_be_bytes w n) ≡ n

pub wide16 : IsWide w16 (2 ^ 16)
wide16 = record { len = λ n. refl; back = λ bytes len fits. be_bytes_2 bytes _ len fits refl; again = λ n lt. from_be_bytes-to_be_bytes_2 n lt }

pub wide32 : IsWide w32 (2 ^ 32)
wide32 = record { len = λ n. refl; back = λ bytes len fits. be_bytes_4 bytes _ len fits refl; again = λ n lt. from_be_bytes-to_be_bytes_4 n lt }

pub wide64 : IsWide w64 (2 ^ 64)
wide64 = record { len = λ n. refl; back = λ bytes len fits. be_bytes_8 bytes _ len fits refl; again = λ n lt. from_be_bytes-to_be_bytes_8 n lt }

long_enough : (n m : ℕ) → nat_lt n m ≡ false → m ≤ n
long_enough n m is = grind (arith, nat_tests)

not_short : (n m : ℕ) → m ≤ n → nat_lt n m ≡ false
not_short n m le = grind (arith, nat_tests)

-- a number, without its form
pub number_takes : (w : Width) (limit : ℕ) (wide : IsWide w limit) (bytes : List ℕ) (x : ℕ × List ℕ) → IsBytes bytes → number_at w bytes ≡ Ok x → (bytes ≡ to_be_bytes w x.0 ++ x.1) × IsBytes x.1
unfolding number_at
number_takes w limit wide bytes x are is =
    let n = from_be_bytes w (take (byte_len w) bytes) in
    let rest = drop (byte_len w) bytes in
    let g = guard_ok (nat_lt (length bytes) (byte_len w)) (length bytes) (n, rest) x is in
    let long : byte_len w ≤ length bytes = long_enough (length bytes) (byte_len w) g.0 in
    let front : to_be_bytes w n ≡ take (byte_len w) bytes = wide.back (take (byte_len w) bytes) (omega (arith, length-take (byte_len w) bytes)) (IsBytes-take (byte_len w) bytes are) in
    let parts : bytes ≡ to_be_bytes w n ++ rest = sym (take-append-drop (byte_len w) bytes) ∙ ap (λ l. l ++ rest) (sym front) in
    subst (λ (y : ℕ × List ℕ). (bytes ≡ to_be_bytes w y.0 ++ y.1) × IsBytes y.1) g.1 (parts, IsBytes-drop (byte_len w) bytes are)

pub number_again : (w : Width) (limit : ℕ) (wide : IsWide w limit) (n : ℕ) (rest : List ℕ) → n < limit → number_at w (to_be_bytes w n ++ rest) ≡ Ok (n, rest)
unfolding number_at
number_again w limit wide n rest lt =
    let len = wide.len n in
    let long : nat_lt (length (to_be_bytes w n ++ rest)) (byte_len w) ≡ false = not_short _ _ (omega (arith, length-append (to_be_bytes w n) rest)) in
    rw (long, take_at (to_be_bytes w n) rest (byte_len w) len, drop_at (to_be_bytes w n) rest (byte_len w) len, wide.again n lt) refl

-- a number of one form
pub number_field : (w : Width) (limit : ℕ) (wide : IsWide w limit) (is : ℕ → Bool) → ((n : ℕ) → is n ≡ true → n < limit) → IsField (to_be_bytes w) is (of_form is (number_at w))
number_field w limit wide form low = record {
  takes = λ bytes x are is.
      let a = bind_ok (number_at w bytes) (λ y. cond (form y.0) (Ok y) (Err (length bytes))) x is in
      let g = pass_ok (form a.0.0) (length bytes) a.0 x a.2 in
      let h = number_takes w limit wide bytes a.0 are a.1 in
      subst (Taken (to_be_bytes w) form bytes) g.1 (record { parts = h.0; left = h.1; fits = g.0 });
  again = λ n rest is.
      ap (λ r. r >>= λ y. cond (form y.0) (Ok y) (Err (length (to_be_bytes w n ++ rest)))) (number_again w limit wide n rest (low n is))
      ∙ ap (λ b. cond b (Ok (n, rest)) (Err (length (to_be_bytes w n ++ rest)))) is;
}

-- ---- bytes

pub bytes_field : (n : ℕ) → IsField (λ l. l) (λ l. length l == n) (bytes_at n)
unfolding bytes_at
bytes_field n = record {
  takes = λ bytes x are is.
      let g = guard_ok (nat_lt (length bytes) n) (length bytes) (take n bytes, drop n bytes) x is in
      let long : n ≤ length bytes = long_enough (length bytes) n g.0 in
      let size : length (take n bytes) ≡ n = omega (arith, length-take n bytes) in
      let fits : (length (take n bytes) == n) ≡ true = grind (arith, nat_tests) in
      subst (Taken (λ l. l) (λ l. length l == n) bytes) g.1 (record { parts = sym (take-append-drop n bytes); left = IsBytes-drop n bytes are; fits = fits });
  again = λ l rest is.
      let size : length l ≡ n = grind (arith, nat_tests) in
      let long : nat_lt (length (l ++ rest)) n ≡ false = not_short _ _ (omega (arith, length-append l rest)) in
      rw (long, take_at l rest n size, drop_at l rest n size) refl;
}

-- ---- bytes with their length in front

abbrev pub counted : Width → List ℕ → List ℕ
counted w l = to_be_bytes w (length l) ++ l

pub counted_takes : (w : Width) (limit : ℕ) (wide : IsWide w limit) (bytes : List ℕ) (x : List ℕ × List ℕ) → IsBytes bytes → counted_at w bytes ≡ Ok x → (bytes ≡ counted w x.0 ++ x.1) × IsBytes x.1
unfolding counted_at
counted_takes w limit wide bytes x are is =
    let a = bind_ok (number_at w bytes) (λ n. cond (nat_lt (length n.1) n.0) (Err (length bytes)) (Ok (take n.0 n.1, drop n.0 n.1))) x is in
    let n = a.0 in
    let h = number_takes w limit wide bytes n are a.1 in
    let g = guard_ok (nat_lt (length n.1) n.0) (length bytes) (take n.0 n.1, drop n.0 n.1) x a.2 in
    let long : n.0 ≤ length n.1 = long_enough (length n.1) n.0 g.0 in
    let size : n.0 ≡ length (take n.0 n.1) = omega (arith, length-take n.0 n.1) in
    let parts : bytes ≡ counted w (take n.0 n.1) ++ drop n.0 n.1 =
    h.0 ∙ ap (λ l. to_be_bytes w n.0 ++ l) (sym (take-append-drop n.0 n.1)) ∙ ap (λ k. to_be_bytes w k ++ (take n.0 n.1 ++ drop n.0 n.1)) size
    ∙ sym (append_assoc (to_be_bytes w (length (take n.0 n.1))) (take n.0 n.1) (drop n.0 n.1)) in
    subst (λ (y : List ℕ × List ℕ). (bytes ≡ counted w y.0 ++ y.1) × IsBytes y.1) g.1 (parts, IsBytes-drop n.0 n.1 h.1)

pub counted_again : (w : Width) (limit : ℕ) (wide : IsWide w limit) (l rest : List ℕ) → length l < limit → counted_at w (counted w l ++ rest) ≡ Ok (l, rest)
unfolding counted_at
counted_again w limit wide l rest lt =
    let long : nat_lt (length (l ++ rest)) (length l) ≡ false = not_short _ _ (omega (arith, length-append l rest)) in
    rw (append_assoc (to_be_bytes w (length l)) l rest, number_again w limit wide (length l) (l ++ rest) lt, long, take_at l rest (length l) refl, drop_at l rest (length l) refl) refl

pub counted_field : (w : Width) (limit : ℕ) (wide : IsWide w limit) (is : List ℕ → Bool) → ((l : List ℕ) → is l ≡ true → length l < limit) → IsField (counted w) is (of_form is (counted_at w))
counted_field w limit wide form short = record {
  takes = λ bytes x are is.
      let a = bind_ok (counted_at w bytes) (λ y. cond (form y.0) (Ok y) (Err (length bytes))) x is in
      let g = pass_ok (form a.0.0) (length bytes) a.0 x a.2 in
      let h = counted_takes w limit wide bytes a.0 are a.1 in
      subst (Taken (counted w) form bytes) g.1 (record { parts = h.0; left = h.1; fits = g.0 });
  again = λ l rest is.
      ap (λ r. r >>= λ y. cond (form y.0) (Ok y) (Err (length (counted w l ++ rest)))) (counted_again w limit wide l rest (short l is))
      ∙ ap (λ b. cond b (Ok (l, rest)) (Err (length (counted w l ++ rest)))) is;
}
