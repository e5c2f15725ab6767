use Rattle.std.proofs.Common.{◌≤◌, ap, subst, sym, ◌∙◌}
use Rattle.std.specs.Prelude.{IsTrue}
use Rattle.repo_model.specs.State.{new_proxy}
use Rattle.repo_model.specs.Settings.{ProxyRule}
use Rattle.row_tables.specs.Items.{is_id}
use Rattle.repo_restart.specs.Rows.{HasProxyForm}
use Rattle.repo_restart.proofs.RuleLemmas.{made-more, rule-at}
use Rattle.repo_restart.proofs.proxies.empty_proxies.Goals as goal

pub new-requires-clause-named : goal.new-requires-clause-named
new-requires-clause-named g c =
    let made = ap (λ (rule : ProxyRule). rule.id) c.in_ok-rule_of.ensures in
    subst (λ id. IsTrue (is_id id)) (sym made) (rule-at HasProxyForm c.args.rules.now c.loop-rule.rule-index c.rule-item.result c.loop-rule-test.true c.rule-item.is c.requires).0

pub new-requires-clause-seconds : goal.new-requires-clause-seconds
new-requires-clause-seconds g c =
    let made = ap (λ (rule : ProxyRule). rule.negative_seconds) c.in_ok-rule_of.ensures in
    subst (λ seconds. seconds ≤ 86400) (sym made) (rule-at HasProxyForm c.args.rules.now c.loop-rule.rule-index c.rule-item.result c.loop-rule-test.true c.rule-item.is c.requires).1

pub loop-rule-preserved : goal.loop-rule-preserved
loop-rule-preserved g c =
    let made = c.new.ensures ∙ ap new_proxy c.in_ok-rule_of.ensures in
    rw c.in_ok-push.ensures.items (made-more new_proxy c.args.rules.now c.loop-rule.proxies.items c.loop-rule.rule-index c.rule-item.result _ c.loop-rule-test.true c.rule-item.is made c.loop-rule.invariant)
