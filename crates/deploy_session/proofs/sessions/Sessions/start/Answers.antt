use Rattle.std.proofs.Common.{◌≡◌, ℕ, ◌+◌, ◌<◌, true, sym, subst, arith}
use Rattle.repo_model.specs.State.{number_end}
use Rattle.row_tables.specs.Applying.{AreRising}
use Rattle.row_tables.specs.Stored as stored
use Rattle.deploy_session.specs.Known.{IsSound}
use Rattle.deploy_session.specs.Shown.{shown_sessions}
use Rattle.deploy_session.proofs.RestartLemmas.{are_numbers, built_so, greatest_below, greatest_from, sound_from}
use Rattle.deploy_session.proofs.sessions.Sessions.start.Goals as goal

pub ended_of-requires-clause-rising : goal.ended_of-requires-clause-rising
ended_of-requires-clause-rising g c = subst AreRising (sym c.sessions-rows.ensures) (built_so c.args.tables.now c.requires).0

pub ended_of-requires-clause-numbers : goal.ended_of-requires-clause-numbers
ended_of-requires-clause-numbers g c = subst (λ ss. are_numbers ss ≡ true) (sym c.sessions-rows.ensures) (built_so c.args.tables.now c.requires).1

pub overflow_add-result : goal.overflow_add-result
overflow_add-result g c =
    let ss = stored.shown_sessions c.sessions-rows.result.now in
    let numbers : are_numbers ss ≡ true = subst (λ ss. are_numbers ss ≡ true) (sym c.sessions-rows.ensures) (built_so c.args.tables.now c.requires).1 in
    let below : greatest_from 0 ss < number_end = greatest_below 0 ss (omega arith) numbers in
    omega (arith, below, c.greatest_of-last.ensures)

pub invariant_of-result : goal.invariant_of-result
invariant_of-result g c =
    let ss = stored.shown_sessions c.sessions-rows.result.now in
    let numbers : are_numbers ss ≡ true = subst (λ ss. are_numbers ss ≡ true) (sym c.sessions-rows.ensures) (built_so c.args.tables.now c.requires).1 in
    subst (λ (m : ℕ). IsSound 0 (m + 1) (shown_sessions c.in_ok-known.known.entries)) (sym c.greatest_of-last.ensures)
    (subst (IsSound 0 (greatest_from 0 ss + 1)) (sym c.in_ok-known.ensures) (sound_from ss numbers))
