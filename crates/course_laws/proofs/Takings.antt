-- What comes of a body that is not taken, as of one that is not read.
use Rattle.std.proofs.Common.{◌≡◌, ◌<◌, ℕ, List, ◌++◌, length, Option, Some, None, Err, arith, sym, subst, ap, ◌∙◌, length-append}
use Rattle.std.specs.Prelude.{IfSome}
use Rattle.outside.specs.Told.{IsAtEnd, in_front}
use Rattle.repo_course.specs.declared.outcomes.Took.TheVariants as took
use Rattle.repo_course.specs.Serving.{Fails, Outside, Reads}

-- nothing is left after a front of it
all-told : (count : ℕ) (gone : List ℕ) (input rest : Option (List ℕ)) → length gone < count → input ≡ in_front gone rest → IsAtEnd rest
    → IfSome input (λ bytes. length bytes < count)
all-told count gone input None less is end = subst (λ i. IfSome i (λ bytes. length bytes < count)) (sym is) tt
all-told count gone input (Some bytes) less is end =
    let long : length (gone ++ bytes) < count = omega (arith, less, length-append gone bytes, ap length end) in
    subst (λ i. IfSome i (λ bytes. length bytes < count)) (sym is) long

pub fails-torn : (count : ℕ) (gone : List ℕ) (old new : Outside) → Fails count gone took.Torn old new → Reads count (Err took.Torn) old new
fails-torn count gone old new t =
    let rest : new.input ≡ t.1.0 = ap (λ (o : Outside). o.input) t.1.2 in
    (all-told count gone old.input t.1.0 t.0 t.1.1 (subst IsAtEnd rest t.2), (t.1.0, t.1.2), t.2)

pub fails-source : (count : ℕ) (gone : List ℕ) (old new : Outside) → Fails count gone took.SourceFault old new → Reads count (Err took.SourceFault) old new
fails-source count gone old new t =
    (t.0, t.1, (t.3.0, t.3.2), (gone, t.2, t.3.1 ∙ ap (in_front gone) (sym (ap (λ (o : Outside). o.input) t.3.2))))
