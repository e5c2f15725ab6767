-- What std's `strip_prefix` and `strip_suffix` of a text say, in the words of cuts.
use Rattle.std.proofs.Common.{◌≡◌, ℕ, true, false, eqb, List, length, Option, Some, None, MatchOption, refl, ap, Bor}
use Rattle.std.specs.Option.{option_copied}
use Rattle.std.specs.List.{starts_with, ends_with}
use Rattle.std.specs.Str.Pattern.{FindsTextPrefix, FindsTextSuffix, StripsPrefix, StripsSuffix}
use Rattle.std.proofs.lemmas.Bool.{false_from_ne_true}
use Rattle.std.proofs.lemmas.Bool.Decides.{Decides-eqb}
use Rattle.std.proofs.lemmas.Slice.Eq.{starts_is, ends_is}
use Rattle.byte_cuts.specs.Cuts.{behind, before}

pub after_strip : (front text : List ℕ) (r : Option (Bor (List ℕ))) → MatchOption r (FindsTextPrefix front text None) (λ x. StripsPrefix (FindsTextPrefix front) text x.now) → option_copied r ≡ behind front text
after_strip front text None h =
    let e : starts_with eqb text front ≡ false = false_from_ne_true _ (λ t. h _ ((starts_is Decides-eqb text front _ refl).0 t)) in
    rw e refl
after_strip front text (Some x) h =
    let e : starts_with eqb text front ≡ true = (starts_is Decides-eqb text front _ refl).1 _ h.1.1 in
    let n : h.0 ≡ length front = h.1.0 in
    rw e (rw (← n) (ap Some h.2))

pub before_strip : (end text : List ℕ) (r : Option (Bor (List ℕ))) → MatchOption r (FindsTextSuffix end text None) (λ x. StripsSuffix (FindsTextSuffix end) text x.now) → option_copied r ≡ before end text
before_strip end text None h =
    let e : ends_with eqb text end ≡ false = false_from_ne_true _ (λ t. h _ ((ends_is Decides-eqb text end _ refl).0 t)) in
    rw e refl
before_strip end text (Some x) h =
    let e : ends_with eqb text end ≡ true = (ends_is Decides-eqb text end _ refl).1 _ h.1.1 in
    let n : h.0 ≡ length end = h.1.0 in
    rw e (rw (← n) (ap Some h.2))
