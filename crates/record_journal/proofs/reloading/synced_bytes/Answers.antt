use Rattle.std.proofs.Common.{sym, ◌∙◌, subst}
use Rattle.std.specs.Prelude.{None}
use Rattle.record_disk.specs.Disk.{Told}
use Rattle.record_log.specs.Log.{LogState, MaySync}
use Rattle.record_journal.specs.Journal.{Recovers}
use Rattle.record_journal.proofs.Reloaded.{kept_then, with_pending, synced_kept, synced_tables, recovers_sync, recovers_none, steady_none, still_none}
use Rattle.record_journal.proofs.reloading.synced_bytes.Goals as goal

pub returns-in_err-take_back-clause-first : goal.returns-in_err-take_back-clause-first
returns-in_err-take_back-clause-first g c = λ none. recovers_none _ _ (c.take_back.ensures.none none).1

pub returns-clause-crash : goal.returns-clause-crash
returns-clause-crash g c =
    with_pending _ _ _ _ None _ (sym (c.load.ensures.same.1 ∙ c.in_ok-take_back.ensures.ok))
    (kept_then _ _ _ _ _ _ c.take_back.ensures.same (with_pending _ _ _ _ _ None c.in_ok-take_back.ensures.ok c.take_back.ensures.crash) (synced_kept _ _ _ _ c.in_ok-take_back.ensures.ok c.load.ensures.moments))

pub returns-clause-steady : goal.returns-clause-steady
returns-clause-steady g c = steady_none c.load.new.self (c.load.ensures.same.1 ∙ c.in_ok-take_back.ensures.ok)

pub returns-clause-same : goal.returns-clause-same
returns-clause-same g c = synced_tables _ _ _ _ _ _ c.in_ok-take_back.ensures.ok (c.load.ensures.same.1 ∙ c.in_ok-take_back.ensures.ok) c.load.ensures.moments ∙ c.take_back.ensures.same

pub returns-clause-first : goal.returns-clause-first
returns-clause-first g c = λ none.
    subst (λ (v : LogState). Told v.trace c.load.new.self.trace Recovers) (c.take_back.ensures.none none).1 (recovers_sync c.take_back.new.log.trace c.load.new.self.trace c.load.ensures.moments)

pub returns-in_err-take_back-clause-moments : goal.returns-in_err-take_back-clause-moments
returns-in_err-take_back-clause-moments g c = λ none. still_none _ _ (c.take_back.ensures.none none).1

pub returns-clause-moments : goal.returns-clause-moments
returns-clause-moments g c = λ none.
    subst (λ (v : LogState). Told v.trace c.load.new.self.trace MaySync) (c.take_back.ensures.none none).1 c.load.ensures.moments
