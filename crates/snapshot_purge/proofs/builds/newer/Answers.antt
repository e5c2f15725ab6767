use Rattle.std.proofs.Common.{rules, get_or, not, ap, ◌∙◌, Some}
use Rattle.std.proofs.lemmas.List.Sorted.{IsPartitionPoint-from_clause}
use Rattle.std.specs.Ordering.{is_lt, is_le, is_some_and}
use Rattle.mvn_metadata.specs.Order.{build_cmp, build_cmp_total}
use Rattle.snapshot_purge.proofs.Counts.{count_by-parted, partitioned, above}
use Rattle.snapshot_purge.proofs.builds.newer.Goals as goal

pub returns : goal.returns
returns c =
    let b = c.args.build in
    let xs = c.args.order.now in
    let point = IsPartitionPoint-from_clause (λ x. is_some_and is_le (Some (build_cmp x b))) _ _ c.partition_point.ensures.partitioned (partitioned build_cmp_total b xs c.requires) (λ a r q k. search rules) in
    count_by-parted (λ x. is_lt (build_cmp b x)) xs b c.partition_point.result c.partition_point.ensures.bound
    (λ k d low high. above build_cmp_total b (get_or xs k d) ∙ ap not (point.0 k d low high))
    (λ k d low high. above build_cmp_total b (get_or xs k d) ∙ ap not (point.1 k d low high))
