use Rattle.std.proofs.Common.{ap, ◌∙◌, subst}
use Rattle.repo_model.specs.Purge.{aged}
use Rattle.snapshot_purge.specs.Ages.{HaveSameBuilds, latest, shown_ages}
use Rattle.snapshot_purge.proofs.AgeLemmas.{added}
use Rattle.snapshot_purge.proofs.ages.Ages.add.Goals as goal

pub returns-clause-ok : goal.returns-clause-ok
returns-clause-ok c =
    let es = c.self.inside.builds.entries in
    let new = c.insert.new.self.entries in
    subst (λ v. HaveSameBuilds (shown_ages new) (aged c.args.accepted c.args.build v)) c.self.view_is
    (added c.args.accepted c.args.build c.latest-newest.result es new c.insert.ensures.was_ordered
    (c.latest-newest.ensures ∙ ap (λ o. latest o c.args.accepted) c.get.ensures.value) c.in_ok-insert.ensures.entries (λ q. c.in_ok-insert.ensures.updates.0 q))
