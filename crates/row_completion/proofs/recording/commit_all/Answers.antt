use Rattle.std.proofs.Common.{◌≡◌, List, Ok, Err, length, min, refl, sym, take, ap, ◌∙◌, subst}
use Rattle.std.specs.Prelude.{OnErr, Result, reverse}
use Rattle.std.specs.List.{AllByRecursion}
use Rattle.std.specs.Option.{option_map}
use Rattle.outside.proofs.ToldLemmas.{on_err}
use Rattle.ordered_rows.specs.Recording.{IsShort}
use Rattle.repo_model.specs.Tables.{applied}
use Rattle.repo_model.specs.declared.item.Item.{Item}
use Rattle.row_tables.specs.Applying.{with_items}
use Rattle.row_tables.specs.Leaving.{Leaves, Shown, end_of}
use Rattle.row_tables.specs.declared.faults.CommitFault.{CommitFault}
use Rattle.row_tables.specs.declared.faults.CommitFault.TheVariants as commit
use Rattle.row_completion.proofs.Chunks.{Left, none-yet, rest-fit-so, short-rest, some-more, told-alike, told-first, told-next, told-twice}
use Rattle.row_completion.proofs.recording.commit_all.Goals as goal

-- where items were not recorded the tables are as they were
untold-by : {T : Type 0} (items : List Item) (old new : Shown) (r : Result T CommitFault) → Leaves items (end_of r) old new → OnErr r (new.tables ≡ old.tables)
untold-by items old new (Ok value) leaves = tt
untold-by items old new (Err commit.Failed) leaves = leaves.tables
untold-by items old new (Err commit.NoMemory) leaves = leaves.tables

pub loop-alloc-init : goal.loop-alloc-init
loop-alloc-init g c = record {
  left = subst (λ them. Left c.args.tables.now c.args.tables.now c.args.items.items them) (sym c.turned-rest.ensures) (none-yet c.args.tables.now c.args.items.items);
  told = told-first (g.K.Records.shows c.args.records.now).tables c.args.tables.now c.requires.told;
  short = subst (AllByRecursion IsShort) (sym c.turned-rest.ensures) c.requires.short;
  fit = subst (λ them. applied c.args.tables.now them ≡ Ok (with_items c.args.tables.now them)) (sym c.turned-rest.ensures) c.requires.fit;
  count = refl;
  settled = λ is. is;
  ready = c.requires.ready;
}

pub commit_first-requires-clause-told : goal.commit_first-requires-clause-told
commit_first-requires-clause-told g c =
    told-alike (g.K.Records.shows c.args.records.now).tables (g.K.Records.shows c.loop-alloc.records).tables c.loop-alloc.tables c.loop-alloc.invariant.told

pub returns-in_err-rest-clause-front : goal.returns-in_err-rest-clause-front
returns-in_err-rest-clause-front g c =
    let left = c.loop-alloc.invariant.left in
    let rest = reverse c.loop-alloc.rest.items in
    let untold = untold-by (take (min 1000 (length c.loop-alloc.rest.items)) rest) (g.K.Records.shows c.loop-alloc.records) (g.K.Records.shows c.commit_first.new.records) c.commit_first.result c.commit_first.ensures.records in
    on_err c.from_residual.result
    (left.front, rest, left.parts, (rw c.in_err-rest.was at untold) ∙ c.loop-alloc.invariant.told ∙ ap (λ t. option_map (λ u. t) (g.K.Records.shows c.args.records.now).tables) left.tables)

pub loop-alloc-preserved : goal.loop-alloc-preserved
loop-alloc-preserved g c =
    let old = c.loop-alloc.invariant in
    let count = min 1000 (length c.loop-alloc.rest.items) in
    let rest = reverse c.loop-alloc.rest.items in
    let made = c.in_ok-rest.ensures in
    record {
      left = some-more count c.args.tables.now c.loop-alloc.tables c.commit_first.new.tables c.args.items.items rest _ old.left made.tables made.rest;
      told = told-twice (g.K.Records.shows c.args.records.now).tables (g.K.Records.shows c.loop-alloc.records).tables (g.K.Records.shows c.commit_first.new.records).tables c.loop-alloc.tables c.commit_first.new.tables old.told
          (made.records.tables
          ∙ told-next (g.K.Records.shows c.loop-alloc.records).tables c.loop-alloc.tables c.commit_first.new.tables (take count rest)
          (told-alike (g.K.Records.shows c.args.records.now).tables (g.K.Records.shows c.loop-alloc.records).tables c.loop-alloc.tables old.told) made.tables);
      short = subst (AllByRecursion IsShort) (sym made.rest) (short-rest count rest old.short);
      fit = rest-fit-so count rest _ c.loop-alloc.tables c.commit_first.new.tables made.tables made.rest old.fit;
      count = made.records.cause ∙ old.count;
      settled = λ is. made.settled;
      ready = made.records.ready;
    }
