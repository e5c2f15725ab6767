-- The path after an authority, by the place of its slash.
use Rattle.std.specs.List.{after_first, position_or_len}
use Rattle.std.proofs.Common.{◌≡◌, ◌≢◌, ℕ, ◌<◌, ◌==◌, List, [], ◌∷◌, length, drop, get_or, arith, refl, ◌∙◌, add-one}
use Rattle.std.proofs.lemmas.List.Sums.{position_or_len_is}
use Rattle.std.proofs.Math.Seq.{drop-cons}
use Rattle.std.proofs.lemmas.Grind.{common_steps}

pub from_slash : (bs : List ℕ) (k : ℕ) → k < length bs → get_or bs k 0 ≡ 47 → ((i : ℕ) → i < k → get_or bs i 0 ≢ 47)
    → drop k bs ≡ 47 ∷ after_first (λ b. b == 47) bs
from_slash bs k within here before =
    let place : position_or_len (λ b. b == 47) bs ≡ k = position_or_len_is (λ b. b == 47) bs k 0 (omega arith) (λ i below. grind (arith, before i below)) (λ h. grind (arith, here)) in
    rw place (drop-cons bs k 0 within ∙ (rw here (rw add-one refl)))

pub without_slash : (bs : List ℕ) → ((i : ℕ) → i < length bs → get_or bs i 0 ≢ 47) → after_first (λ b. b == 47) bs ≡ []
without_slash bs none =
    let place : position_or_len (λ b. b == 47) bs ≡ length bs = position_or_len_is (λ b. b == 47) bs (length bs) 0 (omega arith) (λ i below. grind (arith, none i below)) (λ h. absurd (omega arith)) in
    rw place (grind (arith, common_steps))
