use Rattle.std.proofs.Common.{◌≡◌, sym, ap, ◌∙◌, subst}
use Rattle.std.specs.Prelude.{IfSome}
use Rattle.std.specs.Option.{option_map}
use Rattle.outside.proofs.ToldLemmas.{on_err}
use Rattle.row_completion.specs.Completion.{IsDigestedWhereTold}
use Rattle.row_completion.proofs.Digesting.{told-same}
use Rattle.repo_core.proofs.loading.load.Goals as goal

pub returns-in_err-tables-clause-front : goal.returns-in_err-tables-clause-front
returns-in_err-tables-clause-front g c =
    on_err c.from_residual.result
    (told-same (g.B.Blobs.shelf c.args.blobs.now) (g.K.Records.shows c.args.records.now).tables (g.K.Records.shows c.load.new.self).tables c.load.ensures.same)

pub complete-requires-clause-told : goal.complete-requires-clause-told
complete-requires-clause-told g c =
    subst (λ ts. IfSome ts (λ them. c.in_ok-tables.tables ≡ them)) (sym c.load.ensures.same) c.in_ok-tables.ensures.told

pub returns-in_err-complete-clause-front : goal.returns-in_err-complete-clause-front
returns-in_err-complete-clause-front g c =
    on_err c.from_residual-in_err-complete.result
    (subst (λ ts. IsDigestedWhereTold (g.B.Blobs.shelf c.args.blobs.now) ts (g.K.Records.shows c.complete.new.records).tables) c.load.ensures.same c.in_err-complete.ensures.front)

pub returns-clause-tables : goal.returns-clause-tables
returns-clause-tables g c =
    let loaded = c.in_ok-tables.ensures in
    (c.in_ok-tables.tables, record { built = loaded.built; told = loaded.told; loads = loaded.loads }, c.in_ok-complete.ensures.digested, c.in_ok-complete.ensures.complete)

pub returns-clause-told : goal.returns-clause-told
returns-clause-told g c = c.in_ok-complete.ensures.recorded ∙ ap (λ ts. option_map (λ u. c.complete.new.tables) ts) c.load.ensures.same
