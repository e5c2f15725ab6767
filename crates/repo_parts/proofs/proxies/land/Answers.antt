use Rattle.std.proofs.Common.{◌≡◌, true, false, if◌then◌else◌, List, Some, None, set, sym, ap, ◌∙◌, subst}
use Rattle.std.specs.List.{position}
use Rattle.std.proofs.lemmas.Slice.Eq.{bytes_eq-Decides}
use Rattle.repo_model.specs.Data.{Proxy, Row}
use Rattle.repo_model.specs.Effect.{recorded}
use Rattle.repo_model.specs.Shown.{outcome_map, shown_got}
use Rattle.repo_model.specs.State.{is_proxy}
use Rattle.repo_model.specs.Turn.{lands_by}
use Rattle.row_tables.specs.Leaving.{MayTake}
use Rattle.proxy_rules.specs.Landings.{has_failed, proxy_after_all}
use Rattle.repo_restart.proofs.PlaceLemmas.{changed-at, files-at}
use Rattle.repo_parts.specs.Proxies.{LandsIn, proxies_after_all}
use Rattle.repo_parts.proofs.PlacedLemmas.{landing-here, named-so, none-there, set-itself}
use Rattle.repo_parts.proofs.proxies.land.Goals as goal

pub land-requires-clause-proxy : goal.land-requires-clause-proxy
land-requires-clause-proxy g c =
    let items = c.args.proxies.now.items in
    let p = c.index_mut.result.now in
    let there : position (is_proxy c.args.plan.now.proxy) items ≡ Some c.in-Some.place = rw (c.as_str.ensures, c.deref.ensures.value) at (sym c.in-Some.ensures) in
    sym ((bytes_eq-Decides p.rule.id c.args.plan.now.proxy).0 (named-so c.args.plan.now.proxy items c.in-Some.place p there c.index_mut.ensures.value))

pub land-requires-clause-records : goal.land-requires-clause-records
land-requires-clause-records g c =
    let items = c.args.proxies.now.items in
    let plan = c.args.plan.now in
    let p = c.index_mut.result.now in
    let there : position (is_proxy plan.proxy) items ≡ Some c.in-Some.place = rw (c.as_str.ensures, c.deref.ensures.value) at (sym c.in-Some.ensures) in
    let files = files-at plan.proxy items c.in-Some.place p there c.index_mut.ensures.value in
    let records = c.args.records.now in
    subst (λ (rows : List Row). MayTake (recorded (lands_by rows c.args.moment plan (outcome_map shown_got c.args.outcome))) (g.K.Records.shows records)) files c.requires.records

pub returns : goal.returns
returns g c =
    let items = c.args.proxies.now.items in
    let plan = c.args.plan.now in
    let landing = outcome_map shown_got c.args.outcome in
    let i = c.in-Some.place in
    let p = c.index_mut.result.now in
    let answer = c.land.result in
    let there : position (is_proxy plan.proxy) items ≡ Some i = rw (c.as_str.ensures, c.deref.ensures.value) at (sym c.in-Some.ensures) in
    let files = files-at plan.proxy items i p there c.index_mut.ensures.value in
    let did = c.land.ensures.lands in
    let effects = lands_by p.files c.args.moment plan landing in
    let made : set items i c.land.new.self ≡ (if has_failed answer then items else proxies_after_all effects items) =
    ap (set items i) did.proxy
    ∙ (elim (has_failed answer) as (λ b. set items i (if b then p else proxy_after_all effects p) ≡ (if b then items else proxies_after_all effects items)) [
      | true ↦ set-itself items i p c.index_mut.ensures.value
      | false ↦ ap (λ (q : Proxy). set items i (proxy_after_all effects q)) c.index_mut.ensures.value ∙ changed-at (is_proxy plan.proxy) (proxy_after_all effects) items i p there
          ∙ sym (landing-here p.files c.args.moment plan landing items)
    ]) in
    subst (λ (rows : List Row). LandsIn (lands_by rows c.args.moment plan landing) items (set items i c.land.new.self) (g.K.Records.shows c.args.records.now) (g.K.Records.shows c.land.new.records) answer) (sym files)
    (record { answered = did.answered; asked = did.asked; proxies = made; records = did.records })

pub unreachable-requires : goal.unreachable-requires
unreachable-requires g c =
    let items = c.args.proxies.now.items in
    let none : position (is_proxy c.args.plan.now.proxy) items ≡ None = rw (c.as_str.ensures, c.deref.ensures.value) at (sym c.in-None.ensures) in
    none-there (is_proxy c.args.plan.now.proxy) items c.requires.there none
