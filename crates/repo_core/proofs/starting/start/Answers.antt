use Rattle.std.proofs.Common.{◌≡◌, [], inr, sym, ap, ◌∙◌, subst}
use Rattle.std.specs.Prelude.{IfSome}
use Rattle.std.specs.Option.{ForSome}
use Rattle.outside.specs.Blobs.{Shelf}
use Rattle.repo_laws.specs.Holds.{StandsFor}
use Rattle.repo_model.specs.Restart.{blobs_named}
use Rattle.repo_restart.specs.Leftovers.{ClearsFront}
use Rattle.row_completion.proofs.Digesting.{named-stay, the-same}
use Rattle.repo_model.specs.State.{State, opening}
use Rattle.repo_model.specs.Tables.{no_tables}
use Rattle.repo_core.specs.Start.{Starts}
use Rattle.repo_core.specs.Stock.{state_of}
use Rattle.repo_core.specs.Whole.{Whole, counting}
use Rattle.repo_core.proofs.StartLemmas.{complete-then, damage-then, digested-so, empty-stays, starts-counted, starts-kept, starts-last, starts-opening, starts-proxy-rules, starts-rules, starts-staged, starts-told, told-then}
use Rattle.row_tables.specs.Crashes.{Rests}
use Rattle.repo_core.proofs.starting.start.Goals as goal

pub of-requires-clause-moment : goal.of-requires-clause-moment
of-requires-clause-moment g c =
    let clock = g.C.Clock.moments c.args.clock in
    let old = g.B.Blobs.shelf c.args.blobs.now in
    let new = g.B.Blobs.shelf c.stock_of.new.blobs in
    starts-last c.args.settings c.in-Ok.tables old new clock (state_of c.in-Ok-stock_of.stock clock) c.in-Ok.ensures.built c.form.ensures (subst (λ (sh : Shelf). Starts c.args.settings c.in-Ok.tables sh new clock 0 (state_of c.in-Ok-stock_of.stock clock)) c.load.ensures.kept (c.in-Ok-stock_of.ensures.starts clock))

pub of-requires-clause-rules : goal.of-requires-clause-rules
of-requires-clause-rules g c =
    let clock = g.C.Clock.moments c.args.clock in
    let old = g.B.Blobs.shelf c.args.blobs.now in
    let new = g.B.Blobs.shelf c.stock_of.new.blobs in
    starts-rules c.args.settings c.in-Ok.tables old new clock (state_of c.in-Ok-stock_of.stock clock) c.in-Ok.ensures.built c.form.ensures (subst (λ (sh : Shelf). Starts c.args.settings c.in-Ok.tables sh new clock 0 (state_of c.in-Ok-stock_of.stock clock)) c.load.ensures.kept (c.in-Ok-stock_of.ensures.starts clock))

pub of-requires-clause-proxy_rules : goal.of-requires-clause-proxy_rules
of-requires-clause-proxy_rules g c =
    let clock = g.C.Clock.moments c.args.clock in
    let old = g.B.Blobs.shelf c.args.blobs.now in
    let new = g.B.Blobs.shelf c.stock_of.new.blobs in
    starts-proxy-rules c.args.settings c.in-Ok.tables old new clock (state_of c.in-Ok-stock_of.stock clock) c.in-Ok.ensures.built c.form.ensures (subst (λ (sh : Shelf). Starts c.args.settings c.in-Ok.tables sh new clock 0 (state_of c.in-Ok-stock_of.stock clock)) c.load.ensures.kept (c.in-Ok-stock_of.ensures.starts clock))

pub of-requires-clause-staged : goal.of-requires-clause-staged
of-requires-clause-staged g c =
    let clock = g.C.Clock.moments c.args.clock in
    let old = g.B.Blobs.shelf c.args.blobs.now in
    let new = g.B.Blobs.shelf c.stock_of.new.blobs in
    starts-staged c.args.settings c.in-Ok.tables old new clock (state_of c.in-Ok-stock_of.stock clock) c.in-Ok.ensures.built c.form.ensures (subst (λ (sh : Shelf). Starts c.args.settings c.in-Ok.tables sh new clock 0 (state_of c.in-Ok-stock_of.stock clock)) c.load.ensures.kept (c.in-Ok-stock_of.ensures.starts clock)) c.in-Ok-stock_of.stock.yard.kept

pub over-requires-clause-kept : goal.over-requires-clause-kept
over-requires-clause-kept g c =
    let clock = g.C.Clock.moments c.args.clock in
    let old = g.B.Blobs.shelf c.args.blobs.now in
    let new = g.B.Blobs.shelf c.stock_of.new.blobs in
    let told = told-then (g.K.Records.shows c.args.records).tables (g.K.Records.shows c.load.new.records).tables c.in-Ok.tables c.in-Ok.ensures.told in
    starts-kept c.args.settings c.in-Ok.tables old new clock (state_of c.in-Ok-stock_of.stock clock) c.in-Ok.ensures.built c.form.ensures (subst (λ (sh : Shelf). Starts c.args.settings c.in-Ok.tables sh new clock 0 (state_of c.in-Ok-stock_of.stock clock)) c.load.ensures.kept (c.in-Ok-stock_of.ensures.starts clock)) c.of.result
    (g.K.Records.shows c.load.new.records) c.of.ensures.settings c.of.ensures.state told

pub returns-in-Ok-stock_of-clause-state : goal.returns-in-Ok-stock_of-clause-state
returns-in-Ok-stock_of-clause-state g c =
    let clock = g.C.Clock.moments c.args.clock in
    let old = g.B.Blobs.shelf c.args.blobs.now in
    let new = g.B.Blobs.shelf c.stock_of.new.blobs in
    let before = (g.K.Records.shows c.args.records).faults in
    let s : State = state_of c.in-Ok-stock_of.stock clock in
    let state : c.over.result.state ≡ counting before s =
    ap (λ (w : Whole). w.state) c.over.ensures ∙ ap (counting (g.K.Records.shows c.load.new.records).faults) c.of.ensures.state ∙ ap (λ n. counting n s) c.in-Ok.ensures.same in (
      c.in-Ok.tables,
      c.in-Ok.ensures.tables,
      ap (λ (w : Whole). w.tables) c.over.ensures ∙ c.in-Ok.ensures.told,
      subst (Starts c.args.settings c.in-Ok.tables old new clock before) (sym state)
          (starts-counted c.args.settings c.in-Ok.tables old new clock s c.in-Ok.ensures.built c.form.ensures (subst (λ (sh : Shelf). Starts c.args.settings c.in-Ok.tables sh new clock 0 (state_of c.in-Ok-stock_of.stock clock)) c.load.ensures.kept (c.in-Ok-stock_of.ensures.starts clock)) before),
    )

pub returns-in-Ok-stock_of-clause-stands : goal.returns-in-Ok-stock_of-clause-stands
returns-in-Ok-stock_of-clause-stands g c =
    let clock = g.C.Clock.moments c.args.clock in
    let old = g.B.Blobs.shelf c.args.blobs.now in
    let new = g.B.Blobs.shelf c.stock_of.new.blobs in
    let faults = (g.K.Records.shows c.load.new.records).faults in
    let tables = (g.K.Records.shows c.load.new.records).tables in
    let s : State = state_of c.in-Ok-stock_of.stock clock in
    let told = told-then (g.K.Records.shows c.args.records).tables (g.K.Records.shows c.load.new.records).tables c.in-Ok.tables c.in-Ok.ensures.told in
    let stand : ForSome tables (λ t. StandsFor t (counting faults s)) =
    starts-told c.args.settings c.in-Ok.tables old new clock s c.in-Ok.ensures.built c.form.ensures (subst (λ (sh : Shelf). Starts c.args.settings c.in-Ok.tables sh new clock 0 (state_of c.in-Ok-stock_of.stock clock)) c.load.ensures.kept (c.in-Ok-stock_of.ensures.starts clock)) faults tables told in
    subst (λ (w : Whole). ForSome w.tables (λ t. StandsFor t w.state)) (sym c.over.ensures)
    (subst (λ u. ForSome tables (λ t. StandsFor t (counting faults u))) (sym c.of.ensures.state) stand)

pub returns-in-Ok-stock_of-clause-opening : goal.returns-in-Ok-stock_of-clause-opening
returns-in-Ok-stock_of-clause-opening g c =
    let clock = g.C.Clock.moments c.args.clock in
    let old = g.B.Blobs.shelf c.args.blobs.now in
    let new = g.B.Blobs.shelf c.stock_of.new.blobs in
    let before = (g.K.Records.shows c.args.records).faults in
    let told = (g.K.Records.shows c.args.records).tables in
    let s : State = state_of c.in-Ok-stock_of.stock clock in
    let state : c.over.result.state ≡ counting before s =
    ap (λ (w : Whole). w.state) c.over.ensures ∙ ap (counting (g.K.Records.shows c.load.new.records).faults) c.of.ensures.state ∙ ap (λ n. counting n s) c.in-Ok.ensures.same in
    let starts = starts-counted c.args.settings c.in-Ok.tables old new clock s c.in-Ok.ensures.built c.form.ensures (subst (λ (sh : Shelf). Starts c.args.settings c.in-Ok.tables sh new clock 0 (state_of c.in-Ok-stock_of.stock clock)) c.load.ensures.kept (c.in-Ok-stock_of.ensures.starts clock)) before in
    subst (λ (u : State). IfSome told (λ t. t ≡ no_tables → IfSome old.blobs (λ them. them ≡ [] → u ≡ counting before (opening c.args.settings clock)))) (sym state)
    (starts-opening c.args.settings c.in-Ok.tables old new clock before (counting before s) starts told
    (empty-stays told (g.K.Records.loading c.args.records) old c.in-Ok.tables c.in-Ok.ensures.tables))

pub returns-in-Ok-stock_of-clause-tables : goal.returns-in-Ok-stock_of-clause-tables
returns-in-Ok-stock_of-clause-tables g c =
    digested-so (g.K.Records.shows c.args.records).tables (g.K.Records.loading c.args.records) (g.B.Blobs.shelf c.args.blobs.now) c.in-Ok.tables c.in-Ok.ensures.tables _
    (ap (λ (w : Whole). w.tables) c.over.ensures ∙ c.in-Ok.ensures.told)

pub returns-in-Ok-stock_of-clause-complete : goal.returns-in-Ok-stock_of-clause-complete
returns-in-Ok-stock_of-clause-complete g c =
    complete-then (g.K.Records.shows c.args.records).tables _ c.in-Ok.tables (ap (λ (w : Whole). w.tables) c.over.ensures ∙ c.in-Ok.ensures.told) c.in-Ok.ensures.tables.3

pub returns-in-Err-clause-damaged : goal.returns-in-Err-clause-damaged
returns-in-Err-clause-damaged g c =
    damage-then c.in-Err.fault (λ d first. (first.0, first.0, first.1, the-same (g.B.Blobs.shelf c.args.blobs.now) first.0, first.2, c.load.ensures.kept)) c.in-Err.ensures.damaged

pub returns-in-Err-stock_of-clause-shelf : goal.returns-in-Err-stock_of-clause-shelf
returns-in-Err-stock_of-clause-shelf g c =
    let old = g.B.Blobs.shelf c.args.blobs.now in
    let new = g.B.Blobs.shelf c.stock_of.new.blobs in
    let t = c.in-Ok.tables in
    let completed = c.in-Ok.ensures.tables in
    let cleared = subst (λ (sh : Shelf). ClearsFront (blobs_named t) sh new) c.load.ensures.kept c.in-Err-stock_of.ensures.shelf in
    inr (completed.0, completed.1, subst (λ ns. ClearsFront ns old new) (named-stay old completed.0 t completed.2) cleared)

pub returns-in-Ok-stock_of-clause-rests : goal.returns-in-Ok-stock_of-clause-rests
returns-in-Ok-stock_of-clause-rests g c =
    subst (λ (w : Whole). Rests w.tables w.unsettled) (sym c.over.ensures) (g.met.K.Records.rests c.load.new.records c.in-Ok.ensures.ready)
