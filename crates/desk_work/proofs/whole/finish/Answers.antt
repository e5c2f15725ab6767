use Rattle.std.proofs.Common.{map, ap, ◌∙◌}
use Rattle.std.specs.List.{list_any}
use Rattle.desk_work.proofs.Done.{map-map, list_any-map}
use Rattle.desk_work.proofs.whole.finish.Goals as goal

pub returns-clause-desks : goal.returns-clause-desks
returns-clause-desks g c = c.parted-desks.ensures.desks ∙ ap (map (λ one. one.0)) c.end_all-repository.ensures.back ∙ map-map (λ one. one.0) (λ out. out.1) c.args.outs.items

pub returns-clause-failed : goal.returns-clause-failed
returns-clause-failed g c = c.parted-desks.ensures.failed ∙ ap (list_any (λ one. one.1)) c.end_all-repository.ensures.back ∙ list_any-map (λ one. one.1) (λ out. out.1) c.args.outs.items
