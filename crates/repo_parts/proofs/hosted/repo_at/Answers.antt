use Rattle.std.proofs.Common.{rules, tests, sym, ap, ◌∙◌}
use Rattle.std.specs.Option.{option_map}
use Rattle.std.proofs.lemmas.Iterator.{YieldsList-from_slice}
use Rattle.std.proofs.lemmas.Iterator.Search.{find_from_yields_List}
use Rattle.repo_model.specs.Data.{Hosted}
use Rattle.repo_model.specs.State.{is_repository}
use Rattle.repo_parts.proofs.HostedLemmas.{rule-found}
use Rattle.repo_parts.proofs.ListLemmas.{option_map-map}
use Rattle.repo_parts.proofs.hosted.repo_at.Goals as goal

pub returns-clause-repo : goal.returns-clause-repo
returns-clause-repo g c = find_from_yields_List (is_repository c.args.id.now) _ _ c.find.result c.find.ensures.ran (YieldsList-from_slice c.args.repos.now cc) (λ x b q k. search (rules, tests))

pub returns-clause-rule : goal.returns-clause-rule
returns-clause-rule g c =
    let found = find_from_yields_List (is_repository c.args.id.now) _ _ c.find.result c.find.ensures.ran (YieldsList-from_slice c.args.repos.now cc) (λ x b q k. search (rules, tests)) in
    sym (option_map-map (λ repo. repo.now) (λ (h : Hosted). h.rule) c.find.result) ∙ ap (option_map (λ (h : Hosted). h.rule)) found ∙ sym (rule-found c.args.id.now c.args.repos.now)
