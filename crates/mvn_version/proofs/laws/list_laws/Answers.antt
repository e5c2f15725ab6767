-- The laws of the order of keys and then of texts.
use Rattle.std.proofs.Common.{◌∙◌}
use Rattle.std.proofs.lemmas.Cmp.{tied_itself}
use Rattle.mvn_version.specs.Laws.{list_cmp_ties, list_cmp_total}
use Rattle.mvn_version.specs.Order.{list_cmp}
use Rattle.mvn_version.proofs.laws.list_laws.Goals as goal

pub returns-clause-total : goal.returns-clause-total
returns-clause-total c = list_cmp_total

pub returns-clause-ties : goal.returns-clause-ties
returns-clause-ties c v w = (list_cmp_ties v w, λ same. (λ i. list_cmp (same i) w) ∙ tied_itself list_cmp_total w)
