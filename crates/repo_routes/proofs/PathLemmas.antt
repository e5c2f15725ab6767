-- Whether the escapes of a path spell text.
use Rattle.std.specs.Str.{IsUtf8}
use Rattle.std.proofs.Common.{◌≡◌, ℕ, Bool, true, false, cond, List, Ok, Err, refl}
use Rattle.std.proofs.lemmas.Str.{IsUtf8-from_is_utf8, is_utf8-from_IsUtf8}
use Rattle.percent_encoding.specs.Percent.{percent_decode}
use Rattle.mvn_coords.specs.declared.fault.PathFault.TheVariants.{BadSegment}
use Rattle.http_wire.specs.Head.{Head}
use Rattle.repo_routes.specs.Paths.{decoded, path_refusal}

pub decoded-text : (head : Head) (written : List ℕ) → IsUtf8 (percent_decode written) → decoded head written ≡ Ok (percent_decode written)
unfolding decoded
decoded-text head written text = rw (is_utf8-from_IsUtf8 (percent_decode written) text)

no-text : {A B : Type 0} (test : Bool) (value : A) (cause : B) → (test ≡ true → ⊥) → cond test (Ok value) (Err cause) ≡ Err cause
no-text true value cause fails = absurd (fails refl)
no-text false value cause fails = refl

pub decoded-no-text : (head : Head) (written : List ℕ) → (IsUtf8 (percent_decode written) → ⊥) → decoded head written ≡ Err (path_refusal head BadSegment)
unfolding decoded
decoded-no-text head written fails = no-text _ _ _ (λ h. fails (IsUtf8-from_is_utf8 (percent_decode written) h))
