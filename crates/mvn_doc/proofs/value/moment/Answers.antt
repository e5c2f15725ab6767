use Rattle.std.proofs.Common.{◌≡◌, ℕ, zero, suc, List, [], ◌∷◌, ◌++◌, length, take, drop, refl, ap, append_assoc, append-nil, ◌∙◌, arith}
use Rattle.mvn_coords.specs.Civil.{time_of}
use Rattle.mvn_doc.proofs.PickedSteps.{taken_rest}
use Rattle.mvn_doc.proofs.value.moment.Goals as goal

-- the front of a text up to its dot, and what lies after the dot
to_dot : (n : ℕ) (date dots : List ℕ) → length date ≡ n → take (suc n) (date ++ 46 ∷ dots) ≡ date ++ 46 ∷ []
to_dot zero [] dots h = refl
to_dot zero (x ∷ date) dots h = absurd (omega arith)
to_dot (suc n) [] dots h = absurd (omega arith)
to_dot (suc n) (x ∷ date) dots h = ap (λ t. x ∷ t) (to_dot n date dots (omega arith))

after_dot : (n : ℕ) (date dots : List ℕ) → length date ≡ n → drop (suc n) (date ++ 46 ∷ dots) ≡ dots
after_dot zero [] dots h = refl
after_dot zero (x ∷ date) dots h = absurd (omega arith)
after_dot (suc n) [] dots h = absurd (omega arith)
after_dot (suc n) (x ∷ date) dots h = after_dot n date dots (omega arith)

dotted : (date time dots : List ℕ) → length date ≡ 8 → drop 6 dots ≡ [] → take 9 (date ++ 46 ∷ dots) ++ (time ++ drop 6 (drop 9 (date ++ 46 ∷ dots))) ≡ date ++ 46 ∷ time
dotted date time dots h e =
    let front = to_dot 8 date dots h in
    let end = ap (drop 6) (after_dot 8 date dots h) ∙ e in
    (λ i. front i ++ (time ++ end i)) ∙ append_assoc date (46 ∷ []) (time ++ []) ∙ ap (λ t. date ++ 46 ∷ t) (append-nil time)

pub returns : goal.returns
returns c =
    let date = c.copy_from_slice.new.self in
    let time = c.copy_from_slice-2.new.self in
    let whole = dotted date time (46 ∷ 46 ∷ 46 ∷ 46 ∷ 46 ∷ 46 ∷ []) c.copy_from_slice.ensures.len refl in
    let back = c.copy_from_slice-2.ensures.after ∙ taken_rest c.args.bytes.now 8 in
    c.timestamp.ensures ∙ ap time_of (whole ∙ (λ i. c.copy_from_slice.ensures.after i ++ 46 ∷ back i))
