use Rattle.std.proofs.Common.{◌≡◌, ◌≤◌, ℕ, List, sym, ◌∙◌, ap, subst, Ok, Err}
use Rattle.std.proofs.lemmas.Result.{err_from_is_err_and}
use Rattle.std.specs.Prelude.{IfSome, Some}
use Rattle.record_disk.specs.Disk.{Told, IsDurable}
use Rattle.record_log.specs.Frames.{frames, gate_of, end_of, EndsAt, HoldsFrames}
use Rattle.record_log.specs.Log.{HasAcknowledged, LogState}
use Rattle.record_log.proofs.Mending.{after_magic}
use Rattle.record_journal.specs.Given.{Loads}
use Rattle.row_tables.specs.Loading.{loading}
use Rattle.record_journal.proofs.Reloaded.{Mending, loads_too, refused_left, reload_crash, reload_tables, reload_ready, reload_recovers, still_sync, still_mended, had_bytes, gate_had}
use Rattle.record_journal.proofs.reloading.load_log.Goals as goal

pub returns-in_err-tables-clause-left : goal.returns-in_err-tables-clause-left
returns-in_err-tables-clause-left g c = λ refused.
    let fault = err_from_is_err_and c.from_residual.result c.from_residual.ensures.1 in
    let loads : Loads (loading c.in-Ok.bytes.items) c.from_residual.result =
    rw (fault.1, fault.2) (subst (λ l. Loads (loading l) (Err c.in_err-tables.field-0.0)) c.deref.ensures.value c.in_err-tables.ensures.loads) in
    refused_left c.args.log.now c.synced_bytes.new.log c.in-Ok.bytes.items c.from_residual.result c.requires c.synced_bytes.ensures.crash c.in-Ok.ensures.synced c.in-Ok.ensures.bytes loads refused

pub returns-in-Ok-mend-clause-crash : goal.returns-in-Ok-mend-clause-crash
returns-in-Ok-mend-clause-crash g c =
    let loads : loading c.in-Ok.bytes.items ≡ Ok c.in_ok-tables.tables = ap loading (sym c.deref.ensures.value) ∙ c.in_ok-tables.ensures.loads in
    reload_crash c.args.log.now c.synced_bytes.new.log c.mend.new.self c.in-Ok.bytes.items c.in_ok-tables.tables loads c.in-Ok.ensures.undone c.mend.ensures.done c.in-Ok.ensures.durable
    (subst (λ l. Told c.synced_bytes.new.log.trace c.mend.new.self.trace (Mending l)) c.deref-2.ensures.value c.mend.ensures.moments) c.synced_bytes.ensures.same c.synced_bytes.ensures.crash

pub returns-in-Ok-mend-clause-first : goal.returns-in-Ok-mend-clause-first
returns-in-Ok-mend-clause-first g c = λ none.
    let loads : loading c.in-Ok.bytes.items ≡ Ok c.in_ok-tables.tables = ap loading (sym c.deref.ensures.value) ∙ c.in_ok-tables.ensures.loads in
    reload_recovers c.args.log.now c.synced_bytes.new.log c.mend.new.self c.in-Ok.bytes.items c.in_ok-tables.tables loads c.in-Ok.ensures.undone c.mend.ensures.done c.in-Ok.ensures.durable
    (subst (λ l. Told c.synced_bytes.new.log.trace c.mend.new.self.trace (Mending l)) c.deref-2.ensures.value c.mend.ensures.moments) (c.in-Ok.ensures.synced none)

pub returns-in-Ok-mend-clause-loads : goal.returns-in-Ok-mend-clause-loads
returns-in-Ok-mend-clause-loads g c =
    let loads : loading c.in-Ok.bytes.items ≡ Ok c.in_ok-tables.tables = ap loading (sym c.deref.ensures.value) ∙ c.in_ok-tables.ensures.loads in
    loads_too _ _ (loading c.in-Ok.bytes.items) (Ok c.in_ok-tables.tables) c.in-Ok.ensures.bytes loads

pub returns-in-Ok-mend-clause-ready : goal.returns-in-Ok-mend-clause-ready
returns-in-Ok-mend-clause-ready g c =
    let loads : loading c.in-Ok.bytes.items ≡ Ok c.in_ok-tables.tables = ap loading (sym c.deref.ensures.value) ∙ c.in_ok-tables.ensures.loads in
    reload_ready c.args.log.now c.synced_bytes.new.log c.mend.new.self c.in-Ok.bytes.items c.in_ok-tables.tables loads c.in-Ok.ensures.undone c.mend.ensures.done c.in-Ok.ensures.durable
    (subst (λ l. Told c.synced_bytes.new.log.trace c.mend.new.self.trace (Mending l)) c.deref-2.ensures.value c.mend.ensures.moments)
    (subst (λ g. 8 ≤ g) (sym c.in-Ok-mend.ensures.gate) (after_magic (frames c.deref-2.result.now)))
    (subst (λ l. IfSome c.synced_bytes.new.log.trace (λ s. IsDurable l s → (ps : List (List ℕ)) → HoldsFrames ps l → HasAcknowledged ps c.mend.new.self)) c.deref-2.ensures.value c.in-Ok-mend.ensures.ok)

pub returns-in-Ok-mend-clause-same : goal.returns-in-Ok-mend-clause-same
returns-in-Ok-mend-clause-same g c =
    let loads : loading c.in-Ok.bytes.items ≡ Ok c.in_ok-tables.tables = ap loading (sym c.deref.ensures.value) ∙ c.in_ok-tables.ensures.loads in
    reload_tables c.args.log.now c.synced_bytes.new.log c.mend.new.self c.in-Ok.bytes.items c.in_ok-tables.tables loads c.in-Ok.ensures.undone c.mend.ensures.done c.in-Ok.ensures.durable
    (subst (λ l. Told c.synced_bytes.new.log.trace c.mend.new.self.trace (Mending l)) c.deref-2.ensures.value c.mend.ensures.moments) c.synced_bytes.ensures.same

pub returns-clause-crash : goal.returns-clause-crash
returns-clause-crash g c =
    let loads : loading c.in-Ok.bytes.items ≡ Ok c.in_ok-tables.tables = ap loading (sym c.deref.ensures.value) ∙ c.in_ok-tables.ensures.loads in
    reload_crash c.args.log.now c.synced_bytes.new.log c.mend.new.self c.in-Ok.bytes.items c.in_ok-tables.tables loads c.in-Ok.ensures.undone c.mend.ensures.done c.in-Ok.ensures.durable
    (subst (λ l. Told c.synced_bytes.new.log.trace c.mend.new.self.trace (Mending l)) c.deref-2.ensures.value c.mend.ensures.moments) c.synced_bytes.ensures.same c.synced_bytes.ensures.crash

pub returns-clause-first : goal.returns-clause-first
returns-clause-first g c = λ none.
    let loads : loading c.in-Ok.bytes.items ≡ Ok c.in_ok-tables.tables = ap loading (sym c.deref.ensures.value) ∙ c.in_ok-tables.ensures.loads in
    reload_recovers c.args.log.now c.synced_bytes.new.log c.mend.new.self c.in-Ok.bytes.items c.in_ok-tables.tables loads c.in-Ok.ensures.undone c.mend.ensures.done c.in-Ok.ensures.durable
    (subst (λ l. Told c.synced_bytes.new.log.trace c.mend.new.self.trace (Mending l)) c.deref-2.ensures.value c.mend.ensures.moments) (c.in-Ok.ensures.synced none)

pub returns-clause-same : goal.returns-clause-same
returns-clause-same g c =
    let loads : loading c.in-Ok.bytes.items ≡ Ok c.in_ok-tables.tables = ap loading (sym c.deref.ensures.value) ∙ c.in_ok-tables.ensures.loads in
    reload_tables c.args.log.now c.synced_bytes.new.log c.mend.new.self c.in-Ok.bytes.items c.in_ok-tables.tables loads c.in-Ok.ensures.undone c.mend.ensures.done c.in-Ok.ensures.durable
    (subst (λ l. Told c.synced_bytes.new.log.trace c.mend.new.self.trace (Mending l)) c.deref-2.ensures.value c.mend.ensures.moments) c.synced_bytes.ensures.same

pub returns-in_err-tables-clause-still : goal.returns-in_err-tables-clause-still
returns-in_err-tables-clause-still g c = λ none. still_sync _ _ (c.synced_bytes.ensures.moments none)

pub returns-in-Ok-mend-clause-still : goal.returns-in-Ok-mend-clause-still
returns-in-Ok-mend-clause-still g c = λ none.
    still_mended _ _ _ c.in-Ok.bytes.items (Mending c.in-Ok.bytes.items) (c.in-Ok.ensures.synced none) c.in-Ok.ensures.durable
    (subst (λ l. Told c.synced_bytes.new.log.trace c.mend.new.self.trace (Mending l)) c.deref-2.ensures.value c.mend.ensures.moments)
    (subst (λ l. (gate : ℕ) → gate_of (frames l) ≡ Some gate → EndsAt gate l → c.mend.new.self.trace ≡ c.synced_bytes.new.log.trace) c.deref-2.ensures.value (λ gate is ends. ap (λ (v : LogState). v.trace) (c.mend.ensures.still gate is ends).1))

pub returns-clause-still : goal.returns-clause-still
returns-clause-still g c = λ none.
    still_mended _ _ _ c.in-Ok.bytes.items (Mending c.in-Ok.bytes.items) (c.in-Ok.ensures.synced none) c.in-Ok.ensures.durable
    (subst (λ l. Told c.synced_bytes.new.log.trace c.mend.new.self.trace (Mending l)) c.deref-2.ensures.value c.mend.ensures.moments)
    (subst (λ l. (gate : ℕ) → gate_of (frames l) ≡ Some gate → EndsAt gate l → c.mend.new.self.trace ≡ c.synced_bytes.new.log.trace) c.deref-2.ensures.value (λ gate is ends. ap (λ (v : LogState). v.trace) (c.mend.ensures.still gate is ends).1))

pub returns-in-Ok-mend-clause-gate : goal.returns-in-Ok-mend-clause-gate
returns-in-Ok-mend-clause-gate g c = λ none.
    gate_had _ c.in-Ok.bytes.items _ (subst (λ l. c.mend.new.self.gate ≡ end_of (frames l)) c.deref-2.ensures.value c.in-Ok-mend.ensures.gate) (had_bytes _ _ c.in-Ok.bytes.items (c.in-Ok.ensures.synced none) c.in-Ok.ensures.durable)
