use Rattle.std.proofs.Common.{◌∙◌}
use Rattle.mvn_metadata.specs.Merge.{with_entries}
use Rattle.mvn_metadata.proofs.MergeLaws.{with_entries_none}
use Rattle.mvn_metadata.proofs.entries.Entries.copied.Goals as goal

pub returns : goal.returns
returns c =
    c.in_ok-add_all.ensures ∙ (λ i. with_entries (c.new-copies.ensures i) c.args.self.now) ∙ with_entries_none c.args.self.now c.requires
