use Rattle.std.proofs.Common.{◌≡◌, ◌∙◌, ◌+◌, ◌++◌, ◌∷◌, [], Ok, drop, sym, ap}
use Rattle.std.proofs.lemmas.List.{drop-drop}
use Rattle.outside_remote.specs.Exchanges.{asked_so, exchanged}
use Rattle.outside_remote.specs.declared.exchange.Exchange.{Exchange}
use Rattle.outside_remote.proofs.script.ScriptRemoteRemote.exchange.Goals as goal

pub returns-in_ok-add-in-Some-clause-after : goal.returns-in_ok-add-in-Some-clause-after
returns-in_ok-add-in-Some-clause-after c =
    let i = c.self-in-Some.inside in
    let a = c.args in
    let old = a.self.now in
    let kept = c.in_ok-kept-in-Some.ensures.ok ∙ c.as_slice.ensures in
    let asked = c.in_ok-asked.ensures in
    let state = c.self-in-Some.view_is ∙ c.in_ok-add-in-Some.ensures.ok in
    let left : drop (i.given + 1) i.answers.items ≡ drop 1 old.left = sym (drop-drop 1 i.given i.answers.items) ∙ ap (λ s. drop 1 s.left) state in
    let failing : i.failing.items ≡ old.failing = ap (λ s. s.failing) state in
    let made : i.made.items ≡ old.made ++ exchanged (asked_so a.host.now a.port a.request.now a.limit) (Ok c.in_ok-bytes-in-Some.bytes) ∷ []
    = ap (λ s. s.made) state ∙ ap (λ (e : Exchange). old.made ++ e ∷ []) (λ i. record { asked = asked i; gave = Ok (kept i) }) in
    let faults : i.faults ≡ old.faults = ap (λ s. s.faults) state in
    λ i. record { left = left i; failing = failing i; made = made i; faults = faults i }
