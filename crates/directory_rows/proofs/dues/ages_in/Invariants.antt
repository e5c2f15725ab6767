use Rattle.std.proofs.Common.{map}
use Rattle.std.specs.Map.Iter.{deref_pair}
use Rattle.repo_model.specs.Document.{listed_in}
use Rattle.repo_model.specs.Purge.{builds_of, snapshot_directory}
use Rattle.snapshot_purge.specs.Ages.{HaveSameBuilds}
use Rattle.ordered_rows.specs.Rows.{shown_rows}
use Rattle.directory_rows.proofs.dues.ages_in.Given as goal

-- the builds of the rows so far
abbrev pub invariant-loop-path : goal.invariant-loop-path
invariant-loop-path g l = HaveSameBuilds l.ages (builds_of (listed_in (snapshot_directory l.c) (shown_rows (map deref_pair l.yielded))))
