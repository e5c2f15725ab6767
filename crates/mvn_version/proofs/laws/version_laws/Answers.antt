-- The laws of the order of keys, which is one of lists of lists.
use Rattle.std.proofs.Common.{◌≡◌, false, refl, sym, ap, ◌∙◌}
use Rattle.std.proofs.lemmas.Cmp.{tied_itself, upto}
use Rattle.std.specs.Ordering.{is_gt, ordering_reverse}
use Rattle.std.specs.declared.cmp.Ordering.{Ordering}
use Rattle.std.specs.declared.cmp.Ordering.TheVariants.{Less, Equal, Greater}
use Rattle.mvn_version.specs.Laws.{version_cmp_alike, version_cmp_ties, version_cmp_total}
use Rattle.mvn_version.specs.Order.{version_cmp}
use Rattle.mvn_version.proofs.laws.version_laws.Goals as goal

pub returns-clause-reflexive : goal.returns-clause-reflexive
returns-clause-reflexive c = tied_itself version_cmp_total

pub returns-clause-total : goal.returns-clause-total
returns-clause-total c = version_cmp_total.antisymm

pub returns-clause-transitive : goal.returns-clause-transitive
returns-clause-transitive c = upto version_cmp_total

neither : (r : Ordering) → is_gt r ≡ false → is_gt (ordering_reverse r) ≡ false → r ≡ Equal
neither Less h k = absurd cc
neither Equal h k = refl
neither Greater h k = absurd cc

pub returns-clause-antisymmetric : goal.returns-clause-antisymmetric
returns-clause-antisymmetric c v w h k =
    version_cmp_ties v w (neither (version_cmp v w) h (sym (ap is_gt (version_cmp_total.antisymm w v)) ∙ k))

pub returns-clause-ties : goal.returns-clause-ties
returns-clause-ties c v w = (version_cmp_ties v w, version_cmp_alike v w)
