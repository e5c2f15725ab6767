use Rattle.std.proofs.Common.{ℕ, false, nat_eq, List, ap, ◌∙◌, subst}
use Rattle.std.specs.Map.{lookup}
use Rattle.std.specs.Option.{option_map_or}
use Rattle.blob_yard.specs.Places.{AreRising, is_kept}
use Rattle.blob_yard.specs.declared.places.Place.{Place}
use Rattle.blob_yard.proofs.MapLemmas.{rising-from, lookup-number}
use Rattle.blob_yard.proofs.places.is_kept.Goals as goal

pub returns-in-Some : goal.returns-in-Some
returns-in-Some c =
    let es = c.places.inside.map.entries in
    record {
      value = c.is_kept.ensures ∙ ap (λ o. option_map_or (λ (p : Place). is_kept p.stand) o false) (c.in-Some.ensures.value ∙ lookup-number c.args.number es ∙ ap (λ (es : List (ℕ × Place)). lookup (nat_eq c.args.number) es) c.places.view_is);
      rising = subst (λ (es : List (ℕ × Place)). AreRising es) c.places.view_is (rising-from es c.len-len.ensures.ordered);
    }

pub returns-in-None : goal.returns-in-None
returns-in-None c =
    let es = c.places.inside.map.entries in
    record {
      value = ap (λ o. option_map_or (λ (p : Place). is_kept p.stand) o false) (c.in-None.ensures.value ∙ lookup-number c.args.number es ∙ ap (λ (es : List (ℕ × Place)). lookup (nat_eq c.args.number) es) c.places.view_is);
      rising = subst (λ (es : List (ℕ × Place)). AreRising es) c.places.view_is (rising-from es c.len-len.ensures.ordered);
    }
