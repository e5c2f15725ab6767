use native.Mathlib.Omega.{arith}
use Rattle.std.proofs.Common.{◌≡◌, inl, inr, subst, sym}
use Rattle.repo_model.specs.State.{opening}
use Rattle.repo_model.specs.History.{end}
use Rattle.repo_laws.specs.Laws.{places_of}
use Rattle.repo_laws.proofs.Given.{one-place-or-given}
use Rattle.repo_laws.proofs.Keeping.{opens-sound, ends-sound}
use Rattle.repo_laws.proofs.Standing.{stood-through}
use Rattle.repo_laws.proofs.Untouched.{gone-kept}
use Rattle.repo_laws.proofs.numbers.one_place.Goals as goal

pub returns-clause-one : goal.returns-clause-one
returns-clause-one c = λ settings clock entries n apart legal above below.
    let start = opens-sound settings clock in
    let stood = stood-through settings apart n entries (opening settings clock) 0 start.order start.places legal (λ drawn up. absurd (omega (arith, drawn, up))) below above in
    omega (arith, stood, one-place-or-given settings apart entries (opening settings clock) n start.order start.places legal below)

pub returns-clause-none : goal.returns-clause-none
returns-clause-none c = λ settings clock entries n apart legal past.
    let placed = (ends-sound settings apart (opening settings clock) entries (opens-sound settings clock) legal).places in
    elim past as (λ _. places_of (end settings (opening settings clock) entries) n ≡ 0) [
      | (inl zero) ↦ subst (λ k. places_of (end settings (opening settings clock) entries) k ≡ 0) (sym zero) placed.none
      | (inr later) ↦ placed.later n later
    ]

pub returns-clause-gone : goal.returns-clause-gone
returns-clause-gone c = gone-kept
