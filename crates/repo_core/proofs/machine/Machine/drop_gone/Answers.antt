use Rattle.std.proofs.Common.{◌≡◌, ◌≤◌, ◌++◌, length, map, sym, ap, ◌∙◌, subst, arith}
use Rattle.std.proofs.lemmas.List.{length-map}
use Rattle.blob_yard.specs.Numbers.{Numbers}
use Rattle.hosted_repo.specs.Expired.{blob_of}
use Rattle.repo_model.specs.Purge.{expire_all, most_rows}
use Rattle.repo_model.specs.Turn.{unlent}
use Rattle.repo_laws.specs.Sound.{AreNamedApart}
use Rattle.repo_parts.specs.Deploys.{AreStagedInUse}
use Rattle.repo_parts.specs.Hosted.{AreInUse, rules_of}
use Rattle.repo_parts.specs.Proxies.{AreCachedInUse}
use Rattle.repo_parts.specs.Purge.{AreKeptOnce, condemned_by, dropped_by, kept_without, shares}
use Rattle.settings_laws.proofs.Apart.{named-apart}
use Rattle.repo_parts.specs.Shelves.{AreShelved}
use Rattle.repo_parts.proofs.ShelfChanges.{dropped-still}
use Rattle.repo_parts.proofs.PurgeLemmas.{dropped-rules, shares-length}
use Rattle.repo_core.proofs.PurgeTurns.{blobs-at, collected-cached, collected-once, collected-staged, collected-used, counts-at, turned-collected}
use Rattle.repo_parts.proofs.SessionNumbers.{session-condemned}
use Rattle.repo_core.proofs.machine.Machine.drop_gone.Goals as goal

pub drop_expired-requires : goal.drop_expired-requires
drop_expired-requires g c =
    let items = c.self.inside.repos.items in
    let counts_so = counts-at c.args.self.now _ c.self.view_is c.args.grace c.args.gone.now.counts.items c.requires.grace c.requires.counts in
    let counted : length c.deref.result.now ≡ length items = ap length (c.deref.ensures.value ∙ counts_so) ∙ shares-length c.self.inside.settings.grace c.self.inside.last most_rows items in
    omega (arith, counted)

pub condemn_all-requires : goal.condemn_all-requires
condemn_all-requires g c =
    let kept = c.self.inside.yard.kept in
    let orderly = rw (← c.self.view_is) at c.requires.orderly in
    let told : c.deref-2.result.now ≡ map blob_of (expire_all c.self.inside.settings.grace c.self.inside.last c.self.inside.repos.items) =
    c.deref-2.ensures.value ∙ blobs-at c.args.self.now _ c.self.view_is c.args.grace c.args.gone.now.blobs.items c.requires.grace c.requires.gone in
    subst (λ ns. AreKeptOnce ns kept) (sym told) (collected-once _ kept orderly c.self.invariant.blobs)

pub invariant_of-self : goal.invariant_of-self
invariant_of-self g c =
    let kept = c.self.inside.yard.kept in
    let items = c.self.inside.repos.items in
    let grace = c.self.inside.settings.grace in
    let last = c.self.inside.last in
    let orderly = rw (← c.self.view_is) at c.requires.orderly in
    let seconds_so = rw (← c.self.view_is) at c.requires.grace in
    let blobs_so : c.deref-2.result.now ≡ map blob_of (expire_all grace last items) =
    c.deref-2.ensures.value ∙ blobs-at c.args.self.now _ c.self.view_is c.args.grace c.args.gone.now.blobs.items c.requires.grace c.requires.gone in
    let counts_so : c.deref.result.now ≡ shares grace last most_rows items =
    c.deref.ensures.value ∙ counts-at c.args.self.now _ c.self.view_is c.args.grace c.args.gone.now.counts.items c.requires.grace c.requires.counts in
    let hosted_so : c.drop_expired.new.repos.items ≡ dropped_by grace last (shares grace last most_rows items) items =
    c.drop_expired.ensures ∙ ap (λ seconds. dropped_by seconds last c.deref.result.now items) seconds_so ∙ ap (λ ns. dropped_by grace last ns items) counts_so in
    let kept_so : c.collect.new.self.kept ≡ kept_without (map blob_of (expire_all grace last items)) kept =
    ap (λ (y : Numbers). y.kept) c.collect.ensures.forgotten ∙ ap (λ (y : Numbers). y.kept) c.condemn_all.ensures ∙ ap (λ ns. kept_without ns kept) blobs_so in
    let few : length (shares grace last most_rows items) ≤ length items = omega (arith, shares-length grace last most_rows items) in
    record {
      moment = c.self.invariant.moment;
      shelved = subst (λ hs. AreShelved c.self.inside.settings.groups hs c.self.inside.proxies.items c.self.inside.shelves.items) (sym hosted_so)
          (dropped-still c.self.inside.settings.groups items c.self.inside.proxies.items grace last (shares grace last most_rows items) c.self.inside.shelves.items orderly.order.rows c.self.invariant.shelved);
      blobs = subst (λ k. AreInUse k c.drop_expired.new.repos.items) (sym kept_so)
          (subst (AreInUse (kept_without (map blob_of (expire_all grace last items)) kept)) (sym hosted_so) (collected-used _ kept orderly c.self.invariant.blobs));
      cached = subst (λ k. AreCachedInUse k c.self.inside.proxies.items) (sym kept_so) (collected-cached _ kept orderly c.self.invariant.cached);
      proxy_rules = c.self.invariant.proxy_rules;
      rules = ap rules_of hosted_so ∙ dropped-rules grace last (shares grace last most_rows items) items few ∙ c.self.invariant.rules;
      staged = subst (λ k. AreStagedInUse k c.self.inside.sessions.sessions) (sym kept_so) (collected-staged _ kept orderly c.self.invariant.blobs c.self.invariant.staged);
      numbers = ap (λ (y : Numbers). y.yard.next_session) c.collect.ensures.forgotten ∙ ap (λ (y : Numbers). y.yard.next_session) c.condemn_all.ensures
          ∙ session-condemned c.deref-2.result.now c.self.inside.yard.yard ∙ c.self.invariant.numbers;
    }

pub returns-clause-turn : goal.returns-clause-turn
returns-clause-turn g c =
    let items = c.self.inside.repos.items in
    let grace = c.self.inside.settings.grace in
    let last = c.self.inside.last in
    let gone = expire_all grace last items in
    let between = c.condemn_all.new.yard.yard in
    let seconds_so = rw (← c.self.view_is) at c.requires.grace in
    let told : c.args.gone.now.blobs.items ≡ map blob_of gone = blobs-at c.args.self.now _ c.self.view_is c.args.grace c.args.gone.now.blobs.items c.requires.grace c.requires.gone in
    let blobs_so : c.deref-2.result.now ≡ map blob_of gone = c.deref-2.ensures.value ∙ told in
    let counts_so : c.deref.result.now ≡ shares grace last most_rows items =
    c.deref.ensures.value ∙ counts-at c.args.self.now _ c.self.view_is c.args.grace c.args.gone.now.counts.items c.requires.grace c.requires.counts in
    let hosted_so : c.drop_expired.new.repos.items ≡ dropped_by grace last (shares grace last most_rows items) items =
    c.drop_expired.ensures ∙ ap (λ seconds. dropped_by seconds last c.deref.result.now items) seconds_so ∙ ap (λ ns. dropped_by grace last ns items) counts_so in
    let yard_so : between ≡ condemned_by (map blob_of gone) c.self.inside.yard.yard = ap (λ (y : Numbers). y.yard) c.condemn_all.ensures ∙ ap (λ ns. condemned_by ns c.self.inside.yard.yard) blobs_so in
    let apart = subst AreNamedApart (sym c.self.invariant.rules) (named-apart c.self.inside.settings (rw (← c.self.view_is) at c.requires.orderly.form)) in
    let count : c.len.result ≡ length gone = omega (arith, c.len.ensures, ap length told, length-map gone blob_of) in
    let given : c.from_vec.result ≡ unlent between = c.from_vec.ensures ∙ c.collect.ensures.out ∙ ap (λ ns. ns ++ unlent between) c.requires.empty in
    rw (← c.self.view_is)
    (turned-collected _ c.drop_expired.new.repos.items between c.collect.new.self.yard c.len.result c.from_vec.result apart hosted_so yard_so count given
    (ap (λ (y : Numbers). y.yard) c.collect.ensures.forgotten))
