use Rattle.std.proofs.Common.{subst, sym}
use Rattle.record_log.specs.Log.{LogState}
use Rattle.row_tables.specs.Leaving.{Leaves, end_of}
use Rattle.record_journal.specs.Journal.{Frames, IsReady, shown_of}
use Rattle.record_journal.proofs.Crashes.{frames-so, leaves-so, may_commit, crashes-so}
use Rattle.record_journal.proofs.journal.JournalRecords.commit.Goals as goal

pub commit_change-requires-clause-ready : goal.commit_change-requires-clause-ready
commit_change-requires-clause-ready g c = subst IsReady (sym c.self.view_is) c.requires.records.ready.ready

pub returns-clause-records : goal.returns-clause-records
returns-clause-records g c =
    let did = c.commit_change.ensures in
    let old = c.self.inside.log in
    let new = c.commit_change.new.log in
    let items = c.args.change.now in
    let crashes = crashes-so c.commit_change.result old new items (c.items.ensures.form, c.requires.whole) did.undone did.pending did.wanting did.nothing did.crash in
    subst (λ (log : LogState). Leaves items (end_of c.commit_change.result) (shown_of log) (shown_of new)) c.self.view_is
    (leaves-so c.commit_change.result old new items did.ok did.err did.cause crashes (may_commit new did.ready))

pub returns-clause-frame : goal.returns-clause-frame
returns-clause-frame g c =
    let did = c.commit_change.ensures in
    let new = c.commit_change.new.log in
    subst (λ (log : LogState). Frames c.args.change.now (end_of c.commit_change.result) log new) c.self.view_is
    (frames-so c.commit_change.result c.self.inside.log new c.args.change.now did.undone did.pending did.nothing did.empty did.unframed did.framed did.stays)
