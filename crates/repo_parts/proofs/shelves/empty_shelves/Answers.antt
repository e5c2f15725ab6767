use Rattle.std.proofs.Common.{◌≤◌, ◌++◌, ◌∷◌, [], length, take, sym, ap, ◌∙◌, subst, arith}
use Rattle.std.proofs.lemmas.List.{take_all, take_more}
use Rattle.repo_model.specs.Settings.{GroupRule}
use Rattle.repo_parts.specs.Shelves.{AreShelved}
use Rattle.repo_parts.proofs.ShelfLemmas.{empty-shelved, shelves-more}
use Rattle.repo_parts.proofs.shelves.empty_shelves.Goals as goal

pub loop-group-preserved : goal.loop-group-preserved
loop-group-preserved c = λ hosted proxies.
    let groups = c.args.groups.now in
    let i = c.loop-group.group-index in
    let group = c.group-item.result in
    let more = shelves-more hosted proxies (take i groups) c.loop-group.shelves.items group c.new.result (c.loop-group.invariant hosted proxies)
    (empty-shelved hosted proxies group.members c.new.result c.new.ensures) in
    subst (λ gs. AreShelved gs hosted proxies c.push.new.self.items) (ap (λ (g : GroupRule). take i groups ++ g ∷ []) c.group-item.is ∙ sym (take_more groups i group c.loop-group-test.true))
    (subst (λ ss. AreShelved (take i groups ++ group ∷ []) hosted proxies ss) (sym c.in_ok-push.ensures.items) more)

pub returns : goal.returns
returns c = λ hosted proxies.
    let groups = c.args.groups.now in
    let far : length groups ≤ c.loop-group.group-index = omega (arith, c.loop-group-test.false) in
    subst (λ gs. AreShelved gs hosted proxies c.loop-group.shelves.items) (take_all c.loop-group.group-index groups far) (c.loop-group.invariant hosted proxies)
