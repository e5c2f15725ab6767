-- A core that nobody else asks: its turns are one legal history, and each of them was counted.
use Rattle.std.proofs.Common.{◌≡◌, ℕ, suc, ◌+◌, ◌≤◌, List, [], ◌∷◌, length, arith, subst, ap, ◌∙◌}
use Rattle.std.specs.Prelude.{min}
use Rattle.outside.specs.Faults.{last_count}
use Rattle.repo_core.specs.Whole.{Whole}
use Rattle.repo_model.specs.History.{Entry, Legal, end}
use Rattle.repo_model.specs.Settings.{Settings}
use Rattle.repo_model.specs.State.{State}
use Rattle.repo_run.specs.FirstConnection.{Makes}

pub record IsAlone (old : Whole) (entries : List Entry) (new : Whole) : Type 0 where
  pub legal : Legal old.settings old.state entries
  pub ends : new.state ≡ end old.settings old.state entries
  pub same : new.settings ≡ old.settings

pub core_alone : (entries : List Entry) (old new : Whole) → Makes old entries new → IsAlone old entries new
core_alone [] old new led = record { legal = tt; ends = ap (λ (w : Whole). w.state) led; same = ap (λ (w : Whole). w.settings) led }
core_alone (e ∷ es) old new led =
    let turn = led.1 in
    let rest = core_alone es led.0 new led.2 in
    let legal : Legal old.settings led.0.state es = subst (λ (s : Settings). Legal s led.0.state es) turn.same rest.legal in
    record {
      legal = (turn.fits, subst (λ (s : State). Legal old.settings s es) turn.state legal);
      ends = rest.ends ∙ (λ i. end (turn.same i) (turn.state i) es);
      same = rest.same ∙ turn.same;
    }

one_more : (calls more : ℕ) → calls ≤ last_count → min (min (calls + 1) last_count + more) last_count ≡ min (calls + suc more) last_count
one_more calls more le = omega arith

pub core_counted : (entries : List Entry) (old new : Whole) → old.calls ≤ last_count → Makes old entries new
    → new.calls ≡ min (old.calls + length entries) last_count
core_counted [] old new le led = let same = ap (λ (w : Whole). w.calls) led in omega arith
core_counted (e ∷ es) old new le led =
    let now = led.1.calls in
    let rest = core_counted es led.0 new (omega arith) led.2 in
    rest ∙ ap (λ n. min (n + length es) last_count) now ∙ one_more old.calls (length es) le
