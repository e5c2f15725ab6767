use Rattle.std.proofs.Common.{◌≡◌, ◌≤◌, ◌+◌, ℕ, zero, suc, List, ◌++◌, ◌∷◌, [], length, take, refl, ap, append_assoc, ◌∙◌, arith, length-append}
use Rattle.std.proofs.lemmas.Slice.{take-put_mid}
use Rattle.mvn_coords.proofs.build.build_text.Goals as goal

-- the front of a text up to its dash
to_dash : (n : ℕ) (stamp dashes : List ℕ) → length stamp ≡ n → take (suc n) (stamp ++ 45 ∷ dashes) ≡ stamp ++ 45 ∷ []
to_dash zero [] dashes h = refl
to_dash zero (x ∷ stamp) dashes h = absurd (omega arith)
to_dash (suc n) [] dashes h = absurd (omega arith)
to_dash (suc n) (x ∷ stamp) dashes h = ap (λ t. x ∷ t) (to_dash n stamp dashes (omega arith))

pub returns : goal.returns
returns c =
    let stamp = c.copy_from_slice.new.self in
    let number = c.copy_from_slice-2.new.self in
    let long : length number ≡ length c.args.number.now = ap length c.copy_from_slice-2.ensures.after in
    let dashes : List ℕ = 45 ∷ 45 ∷ 45 ∷ 45 ∷ 45 ∷ 45 ∷ 45 ∷ 45 ∷ 45 ∷ [] in
    let front = to_dash 15 stamp dashes c.copy_from_slice.ensures.len in
    let room : 16 ≤ length (stamp ++ 45 ∷ dashes) = omega (arith, length-append {A = ℕ}, c.copy_from_slice.ensures.len) in
    take-put_mid 16 _ (stamp ++ 45 ∷ dashes) number (16 + length c.args.number.now) (omega (arith, long)) room
    ∙ ap (λ t. t ++ number) front ∙ append_assoc stamp (45 ∷ []) number
    ∙ (λ i. c.copy_from_slice.ensures.after i ++ 45 ∷ c.copy_from_slice-2.ensures.after i)
