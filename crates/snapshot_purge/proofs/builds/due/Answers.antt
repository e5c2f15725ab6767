use Rattle.std.proofs.Common.{◌≡◌, ◌++◌, [], ◌∷◌, get_or, sym, ap, ◌∙◌}
use Rattle.snapshot_purge.proofs.Found.{found_yes, found_no, found_all}
use Rattle.snapshot_purge.specs.Shown.{is_due_among}
use Rattle.snapshot_purge.specs.declared.builds.Aged.{Aged}
use Rattle.snapshot_purge.proofs.builds.due.Goals as goal
use Rattle.snapshot_purge.proofs.builds.due.Goals.{then-is_due+in_ok-push, else-is_due}

pub loop-aged-preserved : goal.loop-aged-preserved
loop-aged-preserved c =
    let rule = c.args.rule.now in
    let test = is_due_among c.in_ok-order.order.items rule.count rule.days c.args.now in
    let builds = c.args.builds.now in
    let i = c.loop-aged.aged-index in
    let x = c.aged-item.result in
    let found = c.loop-aged.found.items in
    let answered : test (get_or builds i x) ≡ c.is_due.result =
    ap test (sym c.aged-item.is) ∙ sym (c.is_due.ensures ∙ ap (λ o. is_due_among o rule.count rule.days c.args.now x) c.deref.ensures.value) in
    elim c.if-is_due.branch [
      | then-is_due+in_ok-push w ↦
          ap (λ v. v.items) w.found-is ∙ w.in_ok-push.ensures.items ∙ ap (λ (a : Aged). found ++ a.build ∷ []) c.aged-item.is
          ∙ found_yes test builds i x found c.loop-aged-test.true (answered ∙ w.if-is_due.true) c.loop-aged.invariant
      | else-is_due w ↦
          ap (λ v. v.items) w.found-is
          ∙ found_no test builds i x found c.loop-aged-test.true (answered ∙ w.if-is_due.false) c.loop-aged.invariant
    ]

pub returns : goal.returns
returns c =
    c.loop-aged.invariant
    ∙ found_all c.in_ok-order.order.items c.args.builds.now c.args.rule.now.count c.args.rule.now.days c.args.now c.loop-aged.aged-index c.in_ok-order.ensures.same c.loop-aged-test.false
