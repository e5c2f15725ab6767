use Rattle.std.proofs.Common.{inl, inr, Some, ◌∙◌, ap, refl, Err, arith}
use Rattle.record_journal.proofs.Added.{append_crash, append_ready, append_tables, append_failed_ready, append_failed_tables, none_crash}
use Rattle.record_journal.proofs.committing.append_change.Goals as goal

pub returns-in-Err-clause-crash : goal.returns-in-Err-clause-crash
returns-in-Err-clause-crash g c = none_crash c.args.log.now c.args.log.now c.args.change.now refl c.requires.undone c.requires.ready

pub returns-in-Ok-append-clause-ready : goal.returns-in-Ok-append-clause-ready
returns-in-Ok-append-clause-ready g c =
    append_ready c.args.change.now (c.in-Ok.ensures.form, c.requires.whole) c.args.log.now c.append.new.self c.in-Ok.payload.items c.in-Ok.ensures.bytes c.requires.undone c.append.ensures.moments c.requires.ready c.requires.fits (omega (arith, c.in-Ok-append.ensures.gate)) c.in-Ok-append.ensures.done c.in-Ok-append.ensures.ok

pub returns-in-Ok-append-clause-ok : goal.returns-in-Ok-append-clause-ok
returns-in-Ok-append-clause-ok g c =
    append_tables c.args.change.now (c.in-Ok.ensures.form, c.requires.whole) c.args.log.now c.append.new.self c.in-Ok.payload.items c.in-Ok.ensures.bytes c.requires.undone c.append.ensures.moments c.requires.ready c.requires.fits c.in-Ok-append.ensures.done c.in-Ok-append.ensures.ok

pub returns-in-Ok-append-clause-crash : goal.returns-in-Ok-append-clause-crash
returns-in-Ok-append-clause-crash g c =
    append_crash c.args.change.now (c.in-Ok.ensures.form, c.requires.whole) c.args.log.now c.append.new.self c.in-Ok.payload.items c.in-Ok.ensures.bytes c.requires.undone c.append.ensures.moments c.requires.ready c.requires.fits

pub returns-in-Err-Failed-clause-ready : goal.returns-in-Err-Failed-clause-ready
returns-in-Err-Failed-clause-ready g c =
    append_failed_ready c.args.change.now (c.in-Ok.ensures.form, c.requires.whole) c.args.log.now c.append.new.self c.in-Ok.payload.items c.in-Ok.ensures.bytes c.requires.undone c.append.ensures.moments c.requires.ready c.requires.fits
    (omega (arith, c.in-Err-Failed.ensures.stays))
    (c.append.ensures.failed (c.in-Err-Failed.is ∙ ap Err c.in-Err-Failed.field-0-is)) c.in-Err-Failed.ensures.err

pub returns-in-Err-Failed-clause-err : goal.returns-in-Err-Failed-clause-err
returns-in-Err-Failed-clause-err g c =
    append_failed_tables c.args.change.now (c.in-Ok.ensures.form, c.requires.whole) c.args.log.now c.append.new.self c.in-Ok.payload.items c.in-Ok.ensures.bytes c.requires.undone c.append.ensures.moments c.requires.ready c.requires.fits
    (c.append.ensures.failed (c.in-Err-Failed.is ∙ ap Err c.in-Err-Failed.field-0-is)) c.in-Err-Failed.ensures.err

pub returns-in-Err-Failed-clause-crash : goal.returns-in-Err-Failed-clause-crash
returns-in-Err-Failed-clause-crash g c =
    append_crash c.args.change.now (c.in-Ok.ensures.form, c.requires.whole) c.args.log.now c.append.new.self c.in-Ok.payload.items c.in-Ok.ensures.bytes c.requires.undone c.append.ensures.moments c.requires.ready c.requires.fits

pub returns-in-Err-NoMemory-clause-crash : goal.returns-in-Err-NoMemory-clause-crash
returns-in-Err-NoMemory-clause-crash g c =
    none_crash c.args.log.now c.append.new.self c.args.change.now (c.append.ensures.no_memory (c.in-Err-NoMemory.is ∙ ap Err c.in-Err-NoMemory.field-0-is)) c.requires.undone c.requires.ready

pub returns-in-Err-Failed-clause-nothing : goal.returns-in-Err-Failed-clause-nothing
returns-in-Err-Failed-clause-nothing g c = inl (c.append.ensures.failed (c.in-Err-Failed.is ∙ ap Err c.in-Err-Failed.field-0-is) ∙ ap Some c.in-Ok.ensures.bytes)

pub returns-in-Err-NoMemory-clause-nothing : goal.returns-in-Err-NoMemory-clause-nothing
returns-in-Err-NoMemory-clause-nothing g c = inr (c.append.ensures.no_memory (c.in-Err-NoMemory.is ∙ ap Err c.in-Err-NoMemory.field-0-is))

pub returns-in-Err-NoMemory-clause-wanting : goal.returns-in-Err-NoMemory-clause-wanting
returns-in-Err-NoMemory-clause-wanting g c =
    λ is. ap (λ log. log.pending) (c.append.ensures.no_memory (c.in-Err-NoMemory.is ∙ ap Err c.in-Err-NoMemory.field-0-is)) ∙ c.requires.undone
