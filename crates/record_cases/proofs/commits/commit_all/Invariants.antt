use Rattle.std.proofs.Common.{◌≡◌, None}
use Rattle.record_journal.specs.Journal.{tables_of, MayCommit}
use Rattle.record_cases.proofs.commits.commit_all.Given as goal

abbrev pub invariant-loop-number : goal.invariant-loop-number
invariant-loop-number l = record { ready : MayCommit l.journal; untold : tables_of l.journal ≡ None }
