use Rattle.std.proofs.Common.{ap, subst, sym, ◌∙◌}
use Rattle.std.specs.Prelude.{IsTrue}
use Rattle.repo_model.specs.State.{new_hosted}
use Rattle.repo_model.specs.Settings.{Rule}
use Rattle.row_tables.specs.Items.{is_id}
use Rattle.repo_restart.proofs.RuleLemmas.{made-more, rule-at}
use Rattle.repo_restart.proofs.empties.empty_repos.Goals as goal

pub new-requires : goal.new-requires
new-requires g c =
    let made = ap (λ (rule : Rule). rule.id) c.in_ok-rule_of.ensures in
    subst (λ id. IsTrue (is_id id)) (sym made) (rule-at (λ (rule : Rule). IsTrue (is_id rule.id)) c.args.rules.now c.loop-rule.rule-index c.rule-item.result c.loop-rule-test.true c.rule-item.is c.requires)

pub loop-rule-preserved : goal.loop-rule-preserved
loop-rule-preserved g c =
    let made = c.new.ensures ∙ ap new_hosted c.in_ok-rule_of.ensures in
    rw c.in_ok-push.ensures.items (made-more new_hosted c.args.rules.now c.loop-rule.repos.items c.loop-rule.rule-index c.rule-item.result _ c.loop-rule-test.true c.rule-item.is made c.loop-rule.invariant)
