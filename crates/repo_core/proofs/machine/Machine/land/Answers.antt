use Rattle.std.proofs.Common.{◌≡◌, true, refl, sym, ap, ◌∙◌, subst}
use Rattle.std.specs.Prelude.{IsTrue}
use Rattle.blob_yard.specs.Numbers.{Numbers}
use Rattle.repo_model.specs.Command.{land, meets}
use Rattle.repo_model.specs.Effect.{recorded}
use Rattle.repo_model.specs.Shown.{outcome_map, shown_got}
use Rattle.repo_model.specs.Turn.{Turn, is_drawn}
use Rattle.repo_laws.specs.Files.{files_in}
use Rattle.proxy_rules.specs.declared.landed.Landed.TheVariants.{Kept}
use Rattle.repo_parts.specs.Proxies.{landing_in, proxy_rules_of}
use Rattle.repo_parts.specs.Changes.{gone_by_landing, is_of_document}
use Rattle.repo_parts.specs.Shelves.{AreShelved, HaveForgotten, is_gone}
use Rattle.repo_core.specs.Whole.{Parts}
use Rattle.repo_core.proofs.ItemForms.{draft-number}
use Rattle.repo_core.proofs.LandLemmas.{cached-landed, drawn-so, hosted-landed, land-turn, landed-rules, lands-so, proxy-there, recorded-land, staged-landed, there-so}
use Rattle.repo_parts.proofs.ShelfChanges.{landed-still}
use Rattle.proxy_rules.specs.Landings.{has_failed}
use Rattle.repo_parts.proofs.SessionNumbers.{session-landed}
use Rattle.row_tables.specs.Leaving.{MayTake}
use Rattle.repo_core.proofs.machine.Machine.land.Goals as goal

pub land-did-requires-clause-there : goal.land-did-requires-clause-there
land-did-requires-clause-there g c =
    let landing = outcome_map shown_got c.args.outcome in
    let met = subst (λ (w : Parts). IsTrue (meets w.settings (land c.args.plan landing))) (sym c.self.view_is) c.requires.meets in
    proxy-there c.args.plan.proxy c.self.inside.proxies.items (rw c.self.invariant.proxy_rules (there-so c.self.inside.settings c.args.plan landing met))

pub land-did-requires-clause-landing : goal.land-did-requires-clause-landing
land-did-requires-clause-landing g c = lands-so c.args.self.now.settings c.args.plan (outcome_map shown_got c.args.outcome) c.requires.meets

pub land-did-requires-clause-draft : goal.land-did-requires-clause-draft
land-did-requires-clause-draft g c =
    let drawn : is_drawn c.args.plan.draft c.self.inside.yard.yard.drafts ≡ true = cc in
    let orderly = rw (← c.self.view_is) at c.requires.orderly in
    λ n is. draft-number _ n orderly.places orderly.order.draft (drawn-so c.args.plan.draft c.self.inside.yard.yard.drafts drawn n is)

pub land-did-requires-clause-records : goal.land-did-requires-clause-records
land-did-requires-clause-records g c =
    let w = c.args.self.now in
    let landing = outcome_map shown_got c.args.outcome in
    let inside : is_drawn c.args.plan.draft c.self.inside.yard.yard.drafts ≡ true = cc in
    let drawn : is_drawn c.args.plan.draft w.state.yard.drafts ≡ true = subst (λ (p : Parts). is_drawn c.args.plan.draft p.state.yard.drafts ≡ true) c.self.view_is inside in
    let records = c.args.records.now in
    subst (λ (p : Parts). MayTake (recorded (landing_in p.state.proxies p.state.last c.args.plan c.args.outcome)) (g.K.Records.shows records)) (sym c.self.view_is)
    (subst (λ (t : Turn). MayTake (recorded t.effects) (g.K.Records.shows records)) (land-turn w w c.args.plan landing Kept drawn) c.requires.records)

pub settle_landed-requires : goal.settle_landed-requires
settle_landed-requires g c =
    let drawn : is_drawn c.args.plan.draft c.self.inside.yard.yard.drafts ≡ true = cc in
    drawn-so c.args.plan.draft c.self.inside.yard.yard.drafts drawn

pub invariant_of-self : goal.invariant_of-self
invariant_of-self g c =
    let landing = outcome_map shown_got c.args.outcome in
    let plan = c.args.plan in
    let did = c.land-did.result in
    let proxies = c.self.inside.proxies.items in
    let kept = c.self.inside.yard.kept in
    let files = files_in plan.proxy proxies in
    let lands = c.land-did.ensures in
    let fits = lands-so c.args.self.now.settings plan landing c.requires.meets in
    let changed : is_gone c.changed_by_landing.result ≡ gone_by_landing plan.path (is_of_document landing) (has_failed did) =
    c.changed_by_landing.ensures ∙ ap (λ p. gone_by_landing p c.is_of_document-of_document.result (has_failed did)) c.as_str.ensures ∙ ap (λ b. gone_by_landing plan.path b (has_failed did)) c.is_of_document-of_document.ensures in
    record {
      moment = c.self.invariant.moment;
      shelved = subst (λ ps. AreShelved c.self.inside.settings.groups c.self.inside.repos.items ps c.forget.new.shelves.items) (sym lands.proxies)
          (landed-still c.self.inside.settings.groups c.self.inside.repos.items proxies files c.self.inside.last plan landing (has_failed did) c.self.inside.shelves.items c.forget.new.shelves.items
          (subst (λ gone. HaveForgotten gone c.self.inside.shelves.items c.forget.new.shelves.items) changed c.forget.ensures) c.self.invariant.shelved);
      blobs = rw c.settle_landed.ensures (hosted-landed plan.draft did kept c.self.inside.repos.items c.self.invariant.blobs);
      cached = rw (lands.proxies, c.settle_landed.ensures) (cached-landed kept proxies c.self.invariant.cached files c.self.inside.last plan landing did fits lands.answered);
      rules = c.self.invariant.rules;
      proxy_rules = ap proxy_rules_of lands.proxies ∙ landed-rules (has_failed did) (landing_in proxies c.self.inside.last plan c.args.outcome) proxies ∙ c.self.invariant.proxy_rules;
      staged = rw c.settle_landed.ensures (staged-landed plan.draft did kept c.self.inside.sessions.sessions c.self.invariant.staged);
      numbers = ap (λ (y : Numbers). y.yard.next_session) c.settle_landed.ensures ∙ session-landed plan.draft did c.self.inside.yard.yard ∙ c.self.invariant.numbers;
    }

pub returns : goal.returns
returns g c =
    let landing = outcome_map shown_got c.args.outcome in
    let drawn : is_drawn c.args.plan.draft c.self.inside.yard.yard.drafts ≡ true = cc in
    let met = subst (λ (w : Parts). IsTrue (meets w.settings (land c.args.plan landing))) (sym c.self.view_is) c.requires.meets in
    let lands = c.land-did.ensures in
    rw (c.reply_of_landed.ensures, ← c.self.view_is)
    (recorded-land _ _ c.args.plan landing c.land-did.result (g.K.Records.shows c.args.records.now) (g.K.Records.shows c.land-did.new.records) drawn met refl refl lands.answered lands.asked (rw (lands.proxies, c.settle_landed.ensures)) lands.records)
