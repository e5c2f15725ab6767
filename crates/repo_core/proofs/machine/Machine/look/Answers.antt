use Rattle.std.proofs.Common.{sym, ap, ◌∙◌, subst}
use Rattle.repo_model.specs.Shown.{shown_reply}
use Rattle.repo_model.specs.State.{State}
use Rattle.blob_yard.specs.Numbers.{Numbers}
use Rattle.repo_parts.specs.Deploys.{AreStagedInUse}
use Rattle.repo_parts.specs.Hosted.{AreInUse}
use Rattle.repo_parts.specs.Proxies.{AreCachedInUse}
use Rattle.repo_parts.specs.Shelves.{AreShelved}
use Rattle.repo_core.proofs.LookLemmas.{turned-looked}
use Rattle.repo_parts.proofs.SessionNumbers.{session-looked}
use Rattle.repo_core.proofs.machine.Machine.look.Goals as goal

pub returns : goal.returns
returns g c =
    let s : State = (c.self.view_is 0).state in
    rw (← c.self.view_is)
    (turned-looked _ c.args.repo.now c.args.path.now c.args.tried.now (shown_reply c.look.result) c.look.new.yard.yard
    (c.look.ensures.reply s (record { hosted_so = sym c.deref.ensures.value; proxies_so = sym c.deref-2.ensures.value })) (ap (λ (y : Numbers). y.yard) c.look.ensures.yard))

pub look-requires-clause-shelved : goal.look-requires-clause-shelved
look-requires-clause-shelved g c =
    subst (λ hs. AreShelved c.self.inside.settings.groups hs c.deref-2.result.now c.self.inside.shelves.items) (sym c.deref.ensures.value)
    (subst (λ ps. AreShelved c.self.inside.settings.groups c.self.inside.repos.items ps c.self.inside.shelves.items) (sym c.deref-2.ensures.value) c.self.invariant.shelved)

pub invariant_of-self : goal.invariant_of-self
invariant_of-self g c = record {
  moment = c.self.invariant.moment;
  shelved = subst (λ hs. AreShelved c.self.inside.settings.groups hs c.self.inside.proxies.items c.look.new.shelves.items) c.deref.ensures.value
      (subst (λ ps. AreShelved c.self.inside.settings.groups c.deref.result.now ps c.look.new.shelves.items) c.deref-2.ensures.value c.look.ensures.shelved);
  blobs = subst (λ k. AreInUse k c.self.inside.repos.items) (sym (ap (λ (y : Numbers). y.kept) c.look.ensures.yard)) c.self.invariant.blobs;
  cached = subst (λ k. AreCachedInUse k c.self.inside.proxies.items) (sym (ap (λ (y : Numbers). y.kept) c.look.ensures.yard)) c.self.invariant.cached;
  proxy_rules = c.self.invariant.proxy_rules;
  rules = c.self.invariant.rules;
  staged = subst (λ k. AreStagedInUse k c.self.inside.sessions.sessions) (sym (ap (λ (y : Numbers). y.kept) c.look.ensures.yard)) c.self.invariant.staged;
  numbers = ap (λ (y : Numbers). y.yard.next_session) c.look.ensures.yard ∙ session-looked (shown_reply c.look.result) c.self.inside.yard.yard ∙ c.self.invariant.numbers;
}
