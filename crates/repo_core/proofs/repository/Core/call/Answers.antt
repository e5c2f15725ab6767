use Rattle.std.proofs.Common.{[], ◌∷◌, subst, sym}
use Rattle.row_tables.specs.Leaving.{HasCause, end_by}
use Rattle.repo_model.specs.History.{Entry, after}
use Rattle.repo_model.specs.Shown.{entry_of, shown_command, shown_reply}
use Rattle.repo_model.specs.Turn.{turn}
use Rattle.repo_laws.specs.Laws.{KeepsReleases}
use Rattle.repo_laws.proofs.Lasting.{releases-last}
use Rattle.repo_core.specs.CoreTurn.{CoreStep}
use Rattle.repo_core.specs.Whole.{Whole, counting, whole_of}
use Rattle.repo_core.proofs.AnswerLemmas.{answers}
use Rattle.repo_core.proofs.KeepLemmas.{may-record, orderly-kept}
use Rattle.settings_laws.proofs.Apart.{named-apart}
use Rattle.repo_core.proofs.CrashTurns.{crashing-so}
use Rattle.repo_core.proofs.Turning.{kept-more, recorded-tables}
use Rattle.repo_core.proofs.repository.Core.call.Goals as goal

pub call-requires-clause-orderly : goal.call-requires-clause-orderly
call-requires-clause-orderly g c = orderly-kept c.self.inside.machine (g.K.Records.shows c.self.inside.records) c.self.invariant.kept

pub call-requires-clause-records : goal.call-requires-clause-records
call-requires-clause-records g c =
    may-record c.self.inside.machine (g.K.Records.shows c.self.inside.records) c.self.invariant.kept c.self.invariant.ready (shown_command c.args.command) (rw (← c.self.view_is) at c.requires)

pub invariant_of-self : goal.invariant_of-self
invariant_of-self g c =
    let faults = (g.K.Records.shows c.call.new.records).faults in
    let old : Whole = whole_of c.self.inside.machine (g.K.Records.shows c.self.inside.records) in
    let new : Whole = whole_of c.call.new.self (g.K.Records.shows c.call.new.records) in
    let e : Entry = entry_of c.args.command c.call.new.self.state.last c.call.result faults in
    let tables = recorded-tables (turn old.settings old.state e.moment e.command).effects e.reply (g.K.Records.shows c.self.inside.records) (g.K.Records.shows c.call.new.records) c.call.ensures.records in
    record {
      kept = kept-more old new e c.self.invariant.kept c.call.ensures.fits c.call.ensures.after c.call.ensures.settings tables;
      ready = c.call.ensures.records.ready;
    }

pub returns-clause-step : goal.returns-clause-step
returns-clause-step g c =
    let did = c.call.ensures in
    let before = g.K.Records.shows c.self.inside.records in
    let later = g.K.Records.shows c.call.new.records in
    let old : Whole = whole_of c.self.inside.machine before in
    let new : Whole = whole_of c.call.new.self later in
    let e : Entry = entry_of c.args.command c.call.new.self.state.last c.call.result later.faults in
    let crashes = crashing-so old.settings old.state e before later (g.met.K.Records.rests c.self.inside.records c.self.invariant.ready) (g.met.K.Records.rests c.call.new.records did.records.ready) did.settled did.records in
    let tables = recorded-tables (turn old.settings old.state e.moment e.command).effects e.reply before later did.records in
    subst (λ (w : Whole). CoreStep w c.args.command c.call.result new) c.self.view_is
    (record {
      turn = record { fits = did.fits; state = did.after; tables = tables; crashes = crashes; settled = did.settled; same = did.settings; calls = did.calls };
      answer = answers old.settings old.state c.self.invariant.kept.sound e did.fits;
    })

pub returns-clause-kept : goal.returns-clause-kept
returns-clause-kept g c =
    let faults = (g.K.Records.shows c.call.new.records).faults in
    let old : Whole = whole_of c.self.inside.machine (g.K.Records.shows c.self.inside.records) in
    let new : Whole = whole_of c.call.new.self (g.K.Records.shows c.call.new.records) in
    let e : Entry = entry_of c.args.command c.call.new.self.state.last c.call.result faults in
    let tables = recorded-tables (turn old.settings old.state e.moment e.command).effects e.reply (g.K.Records.shows c.self.inside.records) (g.K.Records.shows c.call.new.records) c.call.ensures.records in
    kept-more old new e c.self.invariant.kept c.call.ensures.fits c.call.ensures.after c.call.ensures.settings tables

pub returns-clause-releases : goal.returns-clause-releases
returns-clause-releases g c =
    let old : Whole = whole_of c.self.inside.machine (g.K.Records.shows c.self.inside.records) in
    let e : Entry = entry_of c.args.command c.call.new.self.state.last c.call.result (g.K.Records.shows c.call.new.records).faults in
    let sound = c.self.invariant.kept.sound in
    let kept : KeepsReleases old.state (after old.settings old.state e) =
    releases-last old.settings (named-apart old.settings c.self.invariant.kept.form) (e ∷ []) old.state sound.order sound.fading (c.call.ensures.fits, tt) in
    subst (λ (w : Whole). KeepsReleases w.state (counting (g.K.Records.shows c.call.new.records).faults c.call.new.self.state)) c.self.view_is (subst (KeepsReleases old.state) (sym c.call.ensures.after) kept)

pub returns-clause-cause : goal.returns-clause-cause
returns-clause-cause g c =
    subst (λ (w : Whole). HasCause (end_by (shown_reply c.call.result)) w.state.faults (g.K.Records.shows c.call.new.records).faults) c.self.view_is c.call.ensures.records.cause
