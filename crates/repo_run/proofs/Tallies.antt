-- One more answer, counted.
use Rattle.std.proofs.Common.{◌≡◌, ◌∷◌, ◌++◌, ℕ, ◌+◌, ◌≤◌, Bool, true, false, List, [], codes, sym, ap, ◌∙◌, arith}
use Rattle.repo_course.specs.declared.outcomes.End.TheVariants.{Closed}
use Rattle.course_laws.proofs.Alls.{all-joined}
use Rattle.repo_laws.proofs.Counts.{count-push, one_if}
use Rattle.repo_run.specs.declared.tally.Tally.{Tally}
use Rattle.repo_run.specs.Demo.{Answer, NoneStarved, has_status, tally_of, with_status}
use Rattle.repo_run.specs.DemoSteps.{counted, more}

pub counted-push : (answer : Answer) (answers : List Answer) → counted answer.bytes (tally_of answers) ≡ tally_of (answers ++ answer ∷ [])
counted-push answer answers =
    let all : ℕ → ℕ → ℕ → Tally = λ a b c. record { ok = a; created = b; missing = c } in
    let one : (code : List ℕ) → with_status code answers + one_if (has_status code answer.bytes) ≡ with_status code (answers ++ answer ∷ []) =
    λ code. sym (count-push (λ (a : Answer). has_status code a.bytes) answers answer) in
    let more : (code : List ℕ) → ℕ = λ code. with_status code answers + one_if (has_status code answer.bytes) in
    let now : (code : List ℕ) → ℕ = λ code. with_status code (answers ++ answer ∷ []) in
    ap (λ a. all a (more (codes "201")) (more (codes "404"))) (one (codes "200")) ∙ ap (λ b. all (now (codes "200")) b (more (codes "404"))) (one (codes "201"))
    ∙ ap (λ c. all (now (codes "200")) (now (codes "201")) c) (one (codes "404"))

pub none-push : (answer : Answer) (answers : List Answer) → NoneStarved answers → has_status (codes "507") answer.bytes ≡ false → answer.ending ≡ Closed
    → NoneStarved (answers ++ answer ∷ [])
none-push answer answers none is closed =
    let zero : one_if (has_status (codes "507") answer.bytes) ≡ 0 = ap one_if is in
    let before : with_status (codes "507") answers ≡ 0 = none.0 in
    let pushed = count-push (λ (a : Answer). has_status (codes "507") a.bytes) answers answer in
    (omega (arith, pushed, before, zero), all-joined (λ (a : Answer). a.ending ≡ Closed) answers (answer ∷ []) none.1 (closed, tt))

-- a count that rises by one at most
pub more-below : (has : Bool) (count most : ℕ) → count ≤ most → more has count ≤ most + 1
more-below true count most fits = omega (arith, fits)
more-below false count most fits = omega (arith, fits)
