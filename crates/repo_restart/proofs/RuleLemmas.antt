-- Rules one after another.
use Rattle.std.proofs.Common.{◌≡◌, ℕ, ◌+◌, ◌<◌, List, [], ◌∷◌, ◌++◌, take, get_or, length, map, sym, subst, zero, suc, arith}
use Rattle.std.specs.List.{AllByRecursion}
use Rattle.std.proofs.lemmas.List.{take_more, map-append}

-- what holds of each rule holds of the one at a place
pub rule-at : {X : Type 0} (P : X → Type 0) (rules : List X) (i : ℕ) (rule : X) → i < length rules → rule ≡ get_or rules i rule → AllByRecursion P rules → P rule
rule-at P [] i rule within at all = absurd (omega (arith, within))
rule-at P (first ∷ rules) zero rule within at all = subst P (sym at) all.0
rule-at P (first ∷ rules) (suc i) rule within at all = rule-at P rules i rule (omega (arith, within)) at all.1

-- one more that is made of a rule
pub made-more : {X Y : Type 0} (make : X → Y) (told : List X) (made : List Y) (i : ℕ) (rule : X) (one : Y) → i < length told → rule ≡ get_or told i rule → one ≡ make rule
    → made ≡ map make (take i told) → made ++ one ∷ [] ≡ map make (take (i + 1) told)
made-more make told made i rule one h at is before =
    let more : take (i + 1) told ≡ take i told ++ get_or told i rule ∷ [] = take_more told i rule h in
    rw (more, ← at, map-append make (take i told) (rule ∷ []), before, is)
