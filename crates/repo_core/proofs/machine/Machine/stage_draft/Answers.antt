use Rattle.std.proofs.Common.{sym, ap, ◌∙◌, subst}
use Rattle.std.specs.Prelude.{IsTrue, find}
use Rattle.deploy_session.specs.Known.{Known}
use Rattle.deploy_session.specs.Shown.{shown_stage}
use Rattle.repo_model.specs.Reply.{is_free}
use Rattle.repo_model.specs.Shown.{shown_parcel}
use Rattle.repo_model.specs.State.{State, is_among, is_open_at}
use Rattle.repo_model.specs.Turn.{stage_in}
use Rattle.row_tables.specs.Items.{is_number}
use Rattle.repo_parts.specs.Deploys.{AreStagedInUse}
use Rattle.repo_parts.specs.Hosted.{AreInUse}
use Rattle.repo_parts.specs.Proxies.{AreCachedInUse}
use Rattle.repo_core.specs.Whole.{Parts}
use Rattle.repo_parts.proofs.CachedLemmas.{cached-staged}
use Rattle.repo_core.proofs.DeployTurns.{files-staged, next-staged, rows-staged, session-staged, staged-given, staged-known, staged-named, turned-stage}
use Rattle.repo_parts.proofs.EndTurns.{known-if}
use Rattle.repo_core.proofs.ItemForms.{draft-number}
use Rattle.repo_core.proofs.machine.Machine.stage_draft.Goals as goal

pub stage-did-requires-clause-blob : goal.stage-did-requires-clause-blob
stage-did-requires-clause-blob g c =
    let blob = shown_parcel c.args.parcel in
    let named = staged-named c.args.self.now.settings c.args.number c.args.path.now c.args.draft blob c.requires.meets in
    subst (λ n. IsTrue (is_number n)) (sym named) (draft-number c.args.self.now.state c.args.draft c.requires.orderly.places c.requires.orderly.order.draft c.requires.draft)

pub invariant_of-self : goal.invariant_of-self
invariant_of-self g c =
    let k : Known = c.self.inside.sessions in
    let r = shown_stage c.stage-did.result in
    let blob = shown_parcel c.args.parcel in
    let n = c.args.draft in
    let found = find (is_open_at c.args.number) k.sessions in
    let named = staged-named c.args.self.now.settings c.args.number c.args.path.now n blob c.requires.meets in
    let given = staged-given c.args.path.now n blob named found r c.stage-did.ensures.reply in
    let known = staged-known c.args.path.now n blob named found r k c.stage-did.new.self c.stage-did.ensures.sessions in
    let due = stage_in c.args.path.now n blob found in
    let kept_so = sym c.settle_staged.ensures.kept in
    record {
      moment = c.self.invariant.moment;
      shelved = c.self.invariant.shelved;
      blobs = subst (λ ns. AreInUse ns c.self.inside.repos.items) kept_so (rows-staged n r c.self.inside.yard.kept c.self.inside.repos.items c.self.invariant.blobs);
      cached = subst (λ ns. AreCachedInUse ns c.self.inside.proxies.items) kept_so (cached-staged n r c.self.inside.yard.kept c.self.inside.proxies.items c.self.invariant.cached);
      proxy_rules = c.self.invariant.proxy_rules;
      rules = c.self.invariant.rules;
      staged = subst (λ ns. AreStagedInUse ns c.stage-did.new.self.sessions) kept_so
          (subst (AreStagedInUse _) (sym (ap (λ (q : Known). q.sessions) known ∙ known-if (is_free r) due.effects k))
          (files-staged c.args.path.now n blob named found r given c.self.inside.yard.kept k.sessions c.self.invariant.staged));
      numbers = ap (λ y. y.next_session) c.settle_staged.ensures.yard ∙ session-staged n r c.self.inside.yard.yard ∙ c.self.invariant.numbers
          ∙ sym (ap (λ (q : Known). q.next) known ∙ next-staged c.args.path.now n blob named found r given (is_free r) k);
    }

pub returns : goal.returns
returns g c =
    let k : Known = c.self.inside.sessions in
    let r = shown_stage c.stage-did.result in
    let blob = shown_parcel c.args.parcel in
    let n = c.args.draft in
    let s : State = (c.self.view_is 0).state in
    let w : Parts = c.self.view_is 0 in
    let found = find (is_open_at c.args.number) k.sessions in
    let named = staged-named c.args.self.now.settings c.args.number c.args.path.now n blob c.requires.meets in
    let given = staged-given c.args.path.now n blob named found r c.stage-did.ensures.reply in
    let known = staged-known c.args.path.now n blob named found r k c.stage-did.new.self c.stage-did.ensures.sessions in
    let due = stage_in c.args.path.now n blob found in
    let among : IsTrue (is_among n s.yard.drafts) = subst (λ (p : Parts). IsTrue (is_among n p.state.yard.drafts)) (sym c.self.view_is) c.requires.draft in
    rw (← c.self.view_is)
    (turned-stage w c.args.number c.args.path.now n blob among named r c.stage-did.new.self.sessions c.settle_staged.new.yard.yard given
    (ap (λ (q : Known). q.sessions) known ∙ known-if (is_free r) due.effects k) c.settle_staged.ensures.yard)
