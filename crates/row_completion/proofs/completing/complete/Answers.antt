use Rattle.std.proofs.Common.{refl, sym, subst}
use Rattle.std.proofs.lemmas.Bool.{both_ways}
use Rattle.outside.proofs.ToldLemmas.{on_err}
use Rattle.row_tables.specs.Applying.{with_items}
use Rattle.row_tables.specs.Recorded.{IsBuiltUp}
use Rattle.blob_audit.specs.Damages.{IsFirstDamaged}
use Rattle.blob_audit.specs.Order.{all_rows}
use Rattle.row_completion.specs.Completion.{IsComplete, IsDigested, IsDigestedWhereTold}
use Rattle.row_completion.proofs.Chunks.{told-first}
use Rattle.row_completion.proofs.Completed.{all-built, all-complete, all-digested, first-digested, items-fit, items-short}
use Rattle.row_completion.proofs.Digesting.{the-same, told-same, where-told}
use Rattle.row_completion.proofs.Handing.{damage-on, damage-then}
use Rattle.row_completion.proofs.completing.complete.Goals as goal

pub returns-then-is_complete-clause-digested : goal.returns-then-is_complete-clause-digested
returns-then-is_complete-clause-digested g c = the-same (g.B.Blobs.shelf c.args.blobs.now) c.args.tables.now

pub returns-then-is_complete-clause-complete : goal.returns-then-is_complete-clause-complete
returns-then-is_complete-clause-complete g c = c.is_complete.ensures.0 c.if-is_complete.true

pub returns-then-is_complete-clause-recorded : goal.returns-then-is_complete-clause-recorded
returns-then-is_complete-clause-recorded g c = told-first (g.K.Records.shows c.args.records.now).tables c.args.tables.now c.requires.told

pub returns-in_err-items-clause-front : goal.returns-in_err-items-clause-front
returns-in_err-items-clause-front g c =
    on_err c.from_residual.result (told-same (g.B.Blobs.shelf c.args.blobs.now) (g.K.Records.shows c.args.records.now).tables (g.K.Records.shows c.args.records.now).tables refl)

pub returns-in_err-items-clause-damaged : goal.returns-in_err-items-clause-damaged
returns-in_err-items-clause-damaged g c =
    damage-then c.from_residual.result (λ d first. (first, refl))
    (damage-on (Unit {0}) c.from_residual.result c.in_err-items.field-0.0 (IsFirstDamaged (g.B.Blobs.shelf c.args.blobs.now) (all_rows c.args.tables.now)) c.from_residual.ensures.1 c.in_err-items.ensures.damaged)

pub returns-in_err-items-clause-still : goal.returns-in_err-items-clause-still
returns-in_err-items-clause-still g c complete = absurd (both_ways c.is_complete.result c.if-is_complete.false (c.is_complete.ensures.1 complete))

pub commit_all-requires-clause-short : goal.commit_all-requires-clause-short
commit_all-requires-clause-short g c = items-short (g.B.Blobs.shelf c.args.blobs.now) c.args.tables.now c.requires.built c.in_ok-items.items.items c.in_ok-items.ensures.items

pub commit_all-requires-clause-fit : goal.commit_all-requires-clause-fit
commit_all-requires-clause-fit g c = items-fit (g.B.Blobs.shelf c.args.blobs.now) c.args.tables.now c.requires.built c.in_ok-items.items.items c.in_ok-items.ensures.items

pub returns-in-Ok-clause-digested : goal.returns-in-Ok-clause-digested
returns-in-Ok-clause-digested g c =
    let shelf = g.B.Blobs.shelf c.args.blobs.now in
    subst (IsDigested shelf c.args.tables.now) (sym c.in-Ok.ensures.tables) (all-digested shelf c.args.tables.now c.requires.built c.in_ok-items.items.items c.in_ok-items.ensures.items)

pub returns-in-Ok-clause-complete : goal.returns-in-Ok-clause-complete
returns-in-Ok-clause-complete g c =
    subst IsComplete (sym c.in-Ok.ensures.tables) (all-complete (g.B.Blobs.shelf c.args.blobs.now) c.args.tables.now c.requires.built c.in_ok-items.items.items c.in_ok-items.ensures.items)

pub returns-in-Ok-clause-built : goal.returns-in-Ok-clause-built
returns-in-Ok-clause-built g c =
    subst IsBuiltUp (sym c.in-Ok.ensures.tables) (all-built (g.B.Blobs.shelf c.args.blobs.now) c.args.tables.now c.requires.built c.in_ok-items.items.items c.in_ok-items.ensures.items)

pub returns-in-Ok-clause-still : goal.returns-in-Ok-clause-still
returns-in-Ok-clause-still g c complete = absurd (both_ways c.is_complete.result c.if-is_complete.false (c.is_complete.ensures.1 complete))

pub returns-in-Err-Failed-clause-front : goal.returns-in-Err-Failed-clause-front
returns-in-Err-Failed-clause-front g c =
    let shelf = g.B.Blobs.shelf c.args.blobs.now in
    let told = (g.K.Records.shows c.args.records.now).tables in
    let t = c.args.tables.now in
    let items = c.in_ok-items.items.items in
    let left = c.in-Err-Failed.ensures.front in
    subst (IsDigestedWhereTold shelf told) (sym left.3) (where-told shelf told t (with_items t left.0) c.requires.told (first-digested shelf t c.requires.built items c.in_ok-items.ensures.items left.0 left.1 left.2))

pub returns-in-Err-Failed-clause-still : goal.returns-in-Err-Failed-clause-still
returns-in-Err-Failed-clause-still g c complete = absurd (both_ways c.is_complete.result c.if-is_complete.false (c.is_complete.ensures.1 complete))

pub returns-in-Err-NoMemory-clause-front : goal.returns-in-Err-NoMemory-clause-front
returns-in-Err-NoMemory-clause-front g c =
    let shelf = g.B.Blobs.shelf c.args.blobs.now in
    let told = (g.K.Records.shows c.args.records.now).tables in
    let t = c.args.tables.now in
    let items = c.in_ok-items.items.items in
    let left = c.in-Err-NoMemory.ensures.front in
    subst (IsDigestedWhereTold shelf told) (sym left.3) (where-told shelf told t (with_items t left.0) c.requires.told (first-digested shelf t c.requires.built items c.in_ok-items.ensures.items left.0 left.1 left.2))

pub returns-in-Err-NoMemory-clause-still : goal.returns-in-Err-NoMemory-clause-still
returns-in-Err-NoMemory-clause-still g c complete = absurd (both_ways c.is_complete.result c.if-is_complete.false (c.is_complete.ensures.1 complete))
