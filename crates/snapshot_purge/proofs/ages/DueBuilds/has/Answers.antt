use Rattle.std.proofs.Common.{◌≡◌, sym, ap, ◌∙◌, subst}
use Rattle.std.specs.List.{list_any}
use Rattle.std.specs.List.Sorted.{IsSorted}
use Rattle.mvn_metadata.specs.Order.{build_cmp}
use Rattle.repo_model.specs.Purge.{is_same_build}
use Rattle.snapshot_purge.proofs.AgeLemmas.{searched}
use Rattle.snapshot_purge.proofs.ages.DueBuilds.has.Goals as goal

pub returns : goal.returns
returns c =
    let xs = c.deref.result.now in
    let items : xs ≡ c.args.self.now = c.deref.ensures.value ∙ c.self.view_is in
    c.is_ok.ensures.value
    ∙ searched c.args.build xs c.binary_search.result (subst (IsSorted build_cmp) (sym c.deref.ensures.value) c.self.invariant) c.binary_search.ensures.bound c.binary_search.ensures.position
    ∙ ap (list_any (is_same_build c.args.build)) items
