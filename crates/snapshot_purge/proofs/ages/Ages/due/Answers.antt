use Rattle.std.proofs.Common.{sym, ap, ◌∙◌}
use Rattle.std.specs.List.{list_any}
use Rattle.std.proofs.lemmas.List.Sorted.{list_any-IsPermutation}
use Rattle.repo_model.specs.Purge.{due, is_same_build}
use Rattle.snapshot_purge.specs.Shown.{shown_builds}
use Rattle.snapshot_purge.proofs.ages.Ages.due.Goals as goal

pub returns : goal.returns
returns c b =
    let rule = c.args.rule.now in
    sym (list_any-IsPermutation (is_same_build b) c.in_ok-found.found.items c.sort_unstable.new.self.items c.sort_unstable.ensures.permutation)
    ∙ ap (list_any (is_same_build b))
    (c.in_ok-found.ensures ∙ ap (λ bs. due bs rule.count rule.days c.args.now) (ap shown_builds c.as_slice.ensures.value ∙ c.in_ok-builds.ensures))
