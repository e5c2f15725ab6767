use Rattle.std.proofs.Common.{[], ◌∷◌, ◌++◌, map, sym, ap, ◌∙◌}
use Rattle.std.specs.Map.Iter.{deref_pair}
use Rattle.std.proofs.lemmas.List.{map-append}
use Rattle.std.proofs.lemmas.Map.Iter.{iter_end}
use Rattle.snapshot_purge.specs.Ages.{shown_age, shown_ages}
use Rattle.snapshot_purge.specs.Shown.{shown_build, shown_builds}
use Rattle.snapshot_purge.specs.declared.builds.Aged.{Aged}
use Rattle.snapshot_purge.proofs.ages.Ages.listed.Goals as goal

pub loop-build-preserved : goal.loop-build-preserved
loop-build-preserved c =
    let last : Aged = record { build = c.in-Some.build.now; accepted = c.in-Some.accepted.now } in
    ap shown_builds c.in_ok-push.ensures.items
    ∙ map-append shown_build c.loop-build.builds.items (last ∷ [])
    ∙ ap (λ bs. bs ++ shown_build last ∷ []) c.loop-build.invariant
    ∙ sym (ap shown_ages (map-append deref_pair c.loop-build.yielded ((c.in-Some.build, c.in-Some.accepted) ∷ []))
    ∙ map-append shown_age (map deref_pair c.loop-build.yielded) ((c.in-Some.build.now, c.in-Some.accepted.now) ∷ []))

pub returns : goal.returns
returns c =
    let given = c.into_iter-build-iterator.ensures.into_iter_gives in
    c.loop-build.invariant
    ∙ ap shown_ages (iter_end deref_pair c.self.inside.builds.entries c.loop-build.yielded c.into_iter-build-iterator.result c.loop-build.build-iterator c.next.new.self c.next.result given.0 c.loop-build.yielded_by c.in-None.is c.next.ensures.steps).0
    ∙ c.self.view_is
