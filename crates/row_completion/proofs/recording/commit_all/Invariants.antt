-- The first items are committed and the tables have them; the rest, which stand from the last to the first, are short and fit.
use Rattle.std.proofs.Common.{◌≡◌, None, Ok, length}
use Rattle.std.specs.Prelude.{reverse}
use Rattle.std.specs.List.{AllByRecursion}
use Rattle.std.specs.Option.{option_map}
use Rattle.repo_model.specs.Tables.{applied}
use Rattle.row_tables.specs.Applying.{with_items}
use Rattle.ordered_rows.specs.Recording.{IsShort}
use Rattle.row_completion.proofs.Chunks.{Left}
use Rattle.row_completion.proofs.recording.commit_all.Given as goal

abbrev pub invariant-loop-alloc : goal.invariant-loop-alloc
invariant-loop-alloc g l = record {
  left : Left l.fn.tables l.tables l.fn.items.items (reverse l.rest.items);
  told : (g.K.Records.shows l.records).tables ≡ option_map (λ u. l.tables) (g.K.Records.shows l.fn.records).tables;
  short : AllByRecursion IsShort (reverse l.rest.items);
  fit : applied l.tables (reverse l.rest.items) ≡ Ok (with_items l.tables (reverse l.rest.items));
  count : (g.K.Records.shows l.records).faults ≡ (g.K.Records.shows l.fn.records).faults;
  settled : (g.K.Records.shows l.fn.records).unsettled.pending ≡ None → (g.K.Records.shows l.records).unsettled.pending ≡ None;
  ready : (g.K.Records.shows l.records).IsReady;
}

abbrev pub decreases-loop-alloc : goal.decreases-loop-alloc
decreases-loop-alloc g l = length l.rest.items
