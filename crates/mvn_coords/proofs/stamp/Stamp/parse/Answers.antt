use Rattle.std.proofs.Common.{◌≡◌, ℕ, ◌-◌, true, false, Bool, eqb, cond, ◌&&◌, length, get_or, take, drop, Option, None, refl, ap, sym, ◌∙◌, arith, length-take}
use Rattle.std.proofs.lemmas.List.{length-drop, take_rest}
use Rattle.std.proofs.lemmas.Bool.{ne_eqb}
use Rattle.mvn_coords.specs.Civil.{CivilTime, are_digits, fields_of, if_civil, time_of}
use Rattle.mvn_coords.proofs.stamp.Stamp.parse.Goals.{then-bytes-ne15-via-then-bytes-ne15, then-bytes-ne15-via-else-bytes-ne15+then-bytes-ne46, then-not-are_digits-via-then-not-are_digits, then-not-are_digits-via-else-not-are_digits+then-not-are_digits-2}
use Rattle.mvn_coords.proofs.stamp.Stamp.parse.Goals as goal

-- a test that fails decides
first_fails : (a b d e : Bool) (x : Option CivilTime) → a ≡ false → None ≡ cond (a && b && d && e) x None
first_fails a b d e x h = rw h refl

second_fails : (a b d e : Bool) (x : Option CivilTime) → b ≡ false → None ≡ cond (a && b && d && e) x None
second_fails true b d e x h = rw h refl
second_fails false b d e x h = refl

date_fails : (a b d e : Bool) (x : Option CivilTime) → a ≡ true → b ≡ true → d ≡ false → None ≡ cond (a && b && d && e) x None
date_fails a b d e x h k l = rw (h, k, l) refl

time_fails : (a b d e : Bool) (x : Option CivilTime) → a ≡ true → b ≡ true → d ≡ true → e ≡ false → None ≡ cond (a && b && d && e) x None
time_fails a b d e x h k l m = rw (h, k, l, m) refl

none_holds : (a b d e : Bool) (x : Option CivilTime) → a ≡ true → b ≡ true → d ≡ true → e ≡ true → x ≡ cond (a && b && d && e) x None
none_holds a b d e x h k l m = rw (h, k, l, m) refl

pub returns-then-bytes-ne15 : goal.returns-then-bytes-ne15
returns-then-bytes-ne15 c =
    let t = c.as_bytes-bytes.result.now in
    let civil = if_civil (fields_of (take 8 t) (drop 9 t)) in
    let none : None ≡ time_of t = elim c.then-bytes-ne15.branch [
      | then-bytes-ne15-via-then-bytes-ne15 w ↦ first_fails (eqb (length t) 15) (eqb (get_or t 8 0) 46) (are_digits (take 8 t)) (are_digits (drop 9 t)) civil (ne_eqb _ _ w.if-bytes-ne15.true)
      | then-bytes-ne15-via-else-bytes-ne15+then-bytes-ne46 w ↦ second_fails (eqb (length t) 15) (eqb (get_or t 8 0) 46) (are_digits (take 8 t)) (are_digits (drop 9 t)) civil (ne_eqb _ _ w.if-bytes-ne46.true)
    ] in
    none ∙ ap time_of c.as_bytes-bytes.ensures.value

pub returns-then-not-are_digits : goal.returns-then-not-are_digits
returns-then-not-are_digits c =
    let t = c.as_bytes-bytes.result.now in
    let civil = if_civil (fields_of (take 8 t) (drop 9 t)) in
    let long : eqb (length t) 15 ≡ true = ap (λ n. eqb n 15) c.if-bytes-ne15.false in
    let dot : eqb (get_or t 8 0) 46 ≡ true = ap (λ n. eqb n 46) c.if-bytes-ne46.false in
    let none : None ≡ time_of t = elim c.then-not-are_digits.branch [
      | then-not-are_digits-via-then-not-are_digits w ↦ date_fails (eqb (length t) 15) (eqb (get_or t 8 0) 46) (are_digits (take 8 t)) (are_digits (drop 9 t)) civil long dot (sym c.are_digits.ensures ∙ w.if-not-are_digits.true)
      | then-not-are_digits-via-else-not-are_digits+then-not-are_digits-2 w ↦ time_fails (eqb (length t) 15) (eqb (get_or t 8 0) 46) (are_digits (take 8 t)) (are_digits (drop 9 t)) civil long dot (sym c.are_digits.ensures ∙ w.if-not-are_digits.false) (ap are_digits (sym (take_rest t 9)) ∙ sym w.are_digits-else-not-are_digits.ensures ∙ w.if-not-are_digits-2.true)
    ] in
    none ∙ ap time_of c.as_bytes-bytes.ensures.value

pub from_digits-requires : goal.from_digits-requires
from_digits-requires c =
    let t = c.as_bytes-bytes.result.now in
    record {
      date_length = omega (arith, length-take {A = ℕ});
      time_length = ap length (take_rest t 9) ∙ length-drop 9 t ∙ ap (λ n. n - 9) c.if-bytes-ne15.false;
      date = sym c.are_digits.ensures ∙ c.if-not-are_digits.false;
      time = sym c.are_digits-else-not-are_digits.ensures ∙ c.if-not-are_digits-2.false;
    }

pub returns : goal.returns
returns c =
    let t = c.as_bytes-bytes.result.now in
    let time : are_digits (drop 9 t) ≡ true = ap are_digits (sym (take_rest t 9)) ∙ sym c.are_digits-else-not-are_digits.ensures ∙ c.if-not-are_digits-2.false in
    c.from_digits.ensures
    ∙ ap (λ s. if_civil (fields_of (take 8 t) s)) (take_rest t 9)
    ∙ none_holds (eqb (length t) 15) (eqb (get_or t 8 0) 46) (are_digits (take 8 t)) (are_digits (drop 9 t)) (if_civil (fields_of (take 8 t) (drop 9 t)))
    (ap (λ n. eqb n 15) c.if-bytes-ne15.false) (ap (λ n. eqb n 46) c.if-bytes-ne46.false)
    (sym c.are_digits.ensures ∙ c.if-not-are_digits.false) time
    ∙ ap time_of c.as_bytes-bytes.ensures.value
