-- What is read of a text that is too long.
use Rattle.std.proofs.Common.{◌≡◌, ℕ, ◌≤◌, Bool, true, false, ltb, List, [], ◌++◌, length, Option, Some, None, Ok, Err, refl, ap, sym, ◌∙◌, arith}
use Rattle.std.proofs.lemmas.Bool.{lt-ltb, ltb-false, ltb-true}
use Rattle.std.proofs.lemmas.List.{append-nil, length-append}
use Rattle.std.proofs.lemmas.Option.{none-some, same_Some}
use Rattle.outside.specs.Told.{IsAtEnd, in_front}
use Rattle.repo_model.specs.Settings.{Settings}
use Rattle.repo_config.specs.Refusal.{reading}
use Rattle.repo_config.specs.Source.{IsReadFrom}
use Rattle.repo_config.specs.declared.source.SourceFault.TheVariants.{Failed}

-- a text that is too long is refused, whatever stands after it
long : (front rest : List ℕ) (b : Bool) → ltb 65536 (length front) ≡ b → (length front ≤ 65536 → rest ≡ []) → reading (front ++ rest) ≡ reading front
long front rest true is whole =
    let more : ltb 65536 (length (front ++ rest)) ≡ true = lt-ltb _ _ (omega (arith, ltb-true _ _ is, length-append front rest)) in
    rw (is, more) refl
long front rest false is whole = ap reading (ap (λ r. front ++ r) (whole (ltb-false _ _ is)) ∙ append-nil front)

pub reading-front : (front rest : List ℕ) → (length front ≤ 65536 → rest ≡ []) → reading (front ++ rest) ≡ reading front
reading-front front rest whole = long front rest (ltb 65536 (length front)) refl whole

pub read_failed : (left : Option (List ℕ)) → IsReadFrom left (Err Failed)
read_failed None = tt
read_failed (Some text) = tt

-- where so many bytes in front of the rest were read, of which there is none unless these are too many
pub read_ok : (left rest : Option (List ℕ)) (front : List ℕ) (s : Settings) → left ≡ in_front front rest
    → (length front ≤ 65536 → IsAtEnd rest) → reading front ≡ Ok s → IsReadFrom left (Ok s)
read_ok None rest front s told whole h = tt
read_ok (Some text) None front s told whole h = absurd (none-some text (sym told))
read_ok (Some text) (Some rest) front s told whole h =
    ap reading (same_Some text (front ++ rest) told) ∙ reading-front front rest whole ∙ h
