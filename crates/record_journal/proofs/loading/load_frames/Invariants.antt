use Rattle.std.proofs.Common.{◌≡◌, ◌<◌, ◌+◌, ◌^◌, length}
use Rattle.repo_model.specs.Tables.{no_tables}
use Rattle.row_tables.specs.Recorded.{IsBuiltUp}
use Rattle.row_tables.specs.Loading.{after_frames}
use Rattle.record_journal.proofs.loading.load_frames.Given as goal

abbrev pub invariant-loop-payload : goal.invariant-loop-payload
invariant-loop-payload l = record {
  so_far : after_frames l.frame l.frames.is_cut l.tables l.frames.payloads ≡ after_frames 0 l.fn.frames.is_cut no_tables l.fn.frames.payloads;
  built : IsBuiltUp l.tables;
  few : l.frame + length l.frames.payloads < 2 ^ 64;
}

abbrev pub decreases-loop-payload : goal.decreases-loop-payload
decreases-loop-payload l = length l.frames.payloads
