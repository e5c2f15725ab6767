use Rattle.std.proofs.Common.{◌∙◌, subst}
use Rattle.outside.proofs.ToldLemmas.{on_err}
use Rattle.repo_model.specs.Restart.{blobs_named}
use Rattle.repo_parts.specs.Shelves.{AreShelved}
use Rattle.repo_core.proofs.ItemForms.{ids-so, proxies-so}
use Rattle.settings_laws.proofs.Apart.{named-apart, proxies-apart}
use Rattle.repo_core.proofs.StartLemmas.{all-cleared, files-in-use, next-above, next-end, none-cleared, restorable, restored-used}
use Rattle.repo_core.proofs.starting.stock_of.Goals as goal

pub returns-in_err-sessions-clause-shelf : goal.returns-in_err-sessions-clause-shelf
returns-in_err-sessions-clause-shelf g c = on_err c.from_residual.result (none-cleared (blobs_named c.args.tables.now) (g.B.Blobs.shelf c.args.blobs.now))

pub returns-in_err-shelves-clause-shelf : goal.returns-in_err-shelves-clause-shelf
returns-in_err-shelves-clause-shelf g c = on_err c.from_residual-in_err-shelves.result (none-cleared (blobs_named c.args.tables.now) (g.B.Blobs.shelf c.args.blobs.now))

pub restore-requires-clause-ids : goal.restore-requires-clause-ids
restore-requires-clause-ids g c = rw c.hosted.ensures (ids-so c.args.settings.now.hosted c.requires.form.hosted)

pub restore-requires-clause-forms : goal.restore-requires-clause-forms
restore-requires-clause-forms g c = rw c.proxies.ensures (proxies-so c.args.settings.now.proxies c.requires.form.proxies)

pub restore-requires-clause-apart : goal.restore-requires-clause-apart
restore-requires-clause-apart g c = rw c.hosted.ensures (named-apart c.args.settings.now c.requires.form)

pub restore-requires-clause-proxies : goal.restore-requires-clause-proxies
restore-requires-clause-proxies g c = rw c.proxies.ensures (proxies-apart c.args.settings.now c.requires.form)

pub restore-requires-clause-tables : goal.restore-requires-clause-tables
restore-requires-clause-tables g c = restorable c.args.tables.now c.requires.built c.requires.complete

pub start-requires-2-clause-named : goal.start-requires-2-clause-named
start-requires-2-clause-named g c =
    let made = c.in_ok-restored.ensures in
    next-above c.args.tables.now made.next.stored c.deref.result.now c.in_ok-restored.restored.next c.requires.built (c.deref.ensures.value ∙ made.named) made.next.above

pub start-requires-2-clause-next : goal.start-requires-2-clause-next
start-requires-2-clause-next g c =
    let made = c.in_ok-restored.ensures in
    next-end c.args.tables.now made.next.stored c.in_ok-restored.restored.next made.next.above

pub returns-in_err-yard-clause-shelf : goal.returns-in_err-yard-clause-shelf
returns-in_err-yard-clause-shelf g c =
    on_err c.from_residual-in_err-yard.result
    (all-cleared (blobs_named c.args.tables.now) (g.B.Blobs.shelf c.args.blobs.now) (g.B.Blobs.shelf c.restore.new.blobs) c.in_ok-restored.restored.next c.in_ok-restored.ensures.next)

pub returns-clause-kept : goal.returns-clause-kept
returns-clause-kept g c =
    let made = c.in_ok-restored.ensures in
    let them = c.in_ok-restored.restored in
    restored-used c.args.tables.now c.in_ok-yard.yard.kept c.deref.result.now (c.deref.ensures.value ∙ made.named) c.in_ok-yard.ensures.kept
    (g.B.Blobs.shelf c.args.blobs.now) c.hosted.result.now c.proxies.result.now them.repos.items them.proxies.items made.repos

pub returns-clause-cached : goal.returns-clause-cached
returns-clause-cached g c =
    let made = c.in_ok-restored.ensures in
    let them = c.in_ok-restored.restored in
    files-in-use c.args.tables.now c.in_ok-yard.yard.kept c.deref.result.now (c.deref.ensures.value ∙ made.named) c.in_ok-yard.ensures.kept
    (g.B.Blobs.shelf c.args.blobs.now) c.hosted.result.now c.proxies.result.now them.repos.items them.proxies.items made.repos

pub returns-clause-shelved : goal.returns-clause-shelved
returns-clause-shelved g c =
    let them = c.in_ok-restored.restored in
    subst (λ gs. AreShelved gs them.repos.items them.proxies.items c.in_ok-shelves.shelves.items) c.groups.ensures (c.in_ok-shelves.ensures them.repos.items them.proxies.items)
