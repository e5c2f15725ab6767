use Rattle.std.proofs.Common.{refl, sym, ap, ◌∙◌, subst}
use Rattle.std.specs.Prelude.{if◌then◌else◌}
use Rattle.blob_yard.specs.Numbers.{Numbers}
use Rattle.deploy_session.specs.Known.{Known, sessions_after_all}
use Rattle.deploy_session.specs.Shown.{shown_commit, blobs_over}
use Rattle.row_tables.specs.Leaving.{MayTake}
use Rattle.repo_model.specs.Command.{commit}
use Rattle.repo_model.specs.Effect.{recorded}
use Rattle.repo_model.specs.May.{AllMay}
use Rattle.repo_model.specs.Reply.{is_free}
use Rattle.repo_model.specs.State.{State}
use Rattle.repo_laws.proofs.Turns.{turn-can}
use Rattle.repo_parts.specs.Deploys.{AreStagedInUse, commit_in, hosted_after_all}
use Rattle.repo_parts.specs.Hosted.{AreInUse, rules_of}
use Rattle.repo_parts.specs.Proxies.{AreCachedInUse}
use Rattle.repo_parts.specs.Purge.{AreKeptOnce, condemned_by, kept_without}
use Rattle.repo_core.specs.Whole.{Parts}
use Rattle.repo_parts.proofs.EndTurns.{commit-given, commit-going, end-cached, end-files, end-left, end-once, end-rows, known-if, next-if, open-there, rules-if}
use Rattle.repo_parts.specs.Shelves.{AreShelved, HaveForgotten}
use Rattle.repo_parts.proofs.ShelfChanges.{committed-still}
use Rattle.settings_laws.proofs.Apart.{named-apart}
use Rattle.repo_core.proofs.machine.Machine.commit.Goals as goal
use Rattle.repo_core.proofs.Turning.{recorded-by}
use Rattle.repo_parts.proofs.SessionNumbers.{session-condemned}

pub commit-did-requires-clause-there : goal.commit-did-requires-clause-there
commit-did-requires-clause-there g c =
    let orderly = rw (← c.self.view_is) at c.requires.orderly in
    λ one found. open-there c.self.inside.settings c.args.number c.self.inside.sessions.sessions c.self.inside.repos.items one orderly.order.sessions c.self.invariant.rules found

pub commit-did-requires-clause-records : goal.commit-did-requires-clause-records
commit-did-requires-clause-records g c =
    let records = c.args.records.now in
    subst (λ (w : Parts). MayTake (recorded (commit_in c.args.number w.state.last w.state.sessions w.state.hosted).effects) (g.K.Records.shows records)) (sym c.self.view_is) c.requires.records

pub condemn_over-requires : goal.condemn_over-requires
condemn_over-requires g c =
    let k : Known = c.self.inside.sessions in
    let n = c.args.number in
    let orderly = rw (← c.self.view_is) at c.requires.orderly in
    let kept = c.self.inside.yard.kept in
    let s : State = (c.self.view_is 0).state in
    let es = (commit_in n s.last k.sessions s.hosted).effects in
    let settings = c.self.inside.settings in
    let may : AllMay settings.grace s.last s es = turn-can settings.grace s.last settings s orderly.order (named-apart settings orderly.form) (commit n) refl refl in
    subst (λ ns. AreKeptOnce ns kept) (sym c.commit-did.ensures.blobs)
    (end-once settings.grace s.last s es (commit-going n s.last k.sessions s.hosted) may orderly.places kept c.self.invariant.blobs c.self.invariant.staged (is_free (shown_commit c.commit-did.result)))

pub invariant_of-self : goal.invariant_of-self
invariant_of-self g c =
    let k : Known = c.self.inside.sessions in
    let n = c.args.number in
    let free = is_free (shown_commit c.commit-did.result) in
    let orderly = rw (← c.self.view_is) at c.requires.orderly in
    let kept = c.self.inside.yard.kept in
    let s : State = (c.self.view_is 0).state in
    let es = (commit_in n s.last k.sessions s.hosted).effects in
    let going = commit-going n s.last k.sessions s.hosted in
    let settings = c.self.inside.settings in
    let may : AllMay settings.grace s.last s es = turn-can settings.grace s.last settings s orderly.order (named-apart settings orderly.form) (commit n) refl refl in
    let rows = end-rows settings.grace s.last s es going may orderly.places kept c.self.invariant.blobs c.self.invariant.staged free in
    let files = end-files settings.grace s.last s es going may orderly.places kept c.self.invariant.blobs c.self.invariant.staged free in
    let left = c.commit-did.ensures.blobs in
    let kept_is = ap (λ (y : Numbers). y.kept) c.condemn_over.ensures ∙ ap (λ ns. kept_without ns kept) left in
    record {
      moment = c.self.invariant.moment;
      shelved = subst (λ hs. AreShelved settings.groups hs s.proxies c.forget.new.shelves.items) (sym c.commit-did.ensures.rows)
          (committed-still settings.groups s.hosted s.proxies k.sessions n s.last (shown_commit c.commit-did.result) c.self.inside.shelves.items c.forget.new.shelves.items c.commit-did.ensures.reply
          (subst (λ gone. HaveForgotten gone c.self.inside.shelves.items c.forget.new.shelves.items) c.changed_by_commit.ensures c.forget.ensures) c.self.invariant.shelved);
      blobs = subst (λ ns. AreInUse ns c.commit-did.new.repos.items) (sym kept_is) (subst (AreInUse _) (sym c.commit-did.ensures.rows) rows);
      cached = subst (λ ns. AreCachedInUse ns s.proxies) (sym kept_is)
          (end-cached settings.grace s.last s es going may orderly.places kept c.self.invariant.blobs c.self.invariant.staged c.self.invariant.cached free);
      proxy_rules = c.self.invariant.proxy_rules;
      rules = ap rules_of c.commit-did.ensures.rows ∙ rules-if free es s.hosted ∙ c.self.invariant.rules;
      staged = subst (λ ns. AreStagedInUse ns c.commit-did.new.sessions.sessions) (sym kept_is)
          (subst (AreStagedInUse _) (sym (ap (λ (q : Known). q.sessions) c.commit-did.ensures.sessions ∙ known-if free es k)) files);
      numbers = ap (λ (y : Numbers). y.yard.next_session) c.condemn_over.ensures ∙ session-condemned (blobs_over c.commit-did.result) s.yard ∙ c.self.invariant.numbers
          ∙ sym (ap (λ (q : Known). q.next) c.commit-did.ensures.sessions ∙ next-if free es k going);
    }

pub returns : goal.returns
returns g c =
    let k : Known = c.self.inside.sessions in
    let n = c.args.number in
    let r = shown_commit c.commit-did.result in
    let free = is_free r in
    let orderly = rw (← c.self.view_is) at c.requires.orderly in
    let kept = c.self.inside.yard.kept in
    let s : State = (c.self.view_is 0).state in
    let t = commit_in n s.last k.sessions s.hosted in
    let es = t.effects in
    let going = commit-going n s.last k.sessions s.hosted in
    let settings = c.self.inside.settings in
    let w : Parts = c.self.view_is 0 in
    let new : Parts = record w { state = record s { hosted = c.commit-did.new.repos.items; sessions = c.commit-did.new.sessions.sessions; yard = c.condemn_over.new.yard.yard } } in
    let may : AllMay settings.grace s.last s es = turn-can settings.grace s.last settings s orderly.order (named-apart settings orderly.form) (commit n) refl refl in
    let left =
    ap (λ hs. record s { hosted = hs; sessions = c.commit-did.new.sessions.sessions; yard = c.condemn_over.new.yard.yard }) c.commit-did.ensures.rows
    ∙ ap (λ ss. record s { hosted = (if free then s.hosted else hosted_after_all es s.hosted); sessions = ss; yard = c.condemn_over.new.yard.yard })
    (ap (λ (q : Known). q.sessions) c.commit-did.ensures.sessions ∙ known-if free es k)
    ∙ ap (λ (y : Numbers). record s { hosted = (if free then s.hosted else hosted_after_all es s.hosted); sessions = (if free then s.sessions else sessions_after_all es s.sessions); yard = y.yard }) c.condemn_over.ensures
    ∙ ap (λ ns. record s { hosted = (if free then s.hosted else hosted_after_all es s.hosted); sessions = (if free then s.sessions else sessions_after_all es s.sessions); yard = condemned_by ns s.yard }) c.commit-did.ensures.blobs
    ∙ end-left settings.grace s.last s es going may orderly.places kept c.self.invariant.blobs c.self.invariant.staged free in
    rw (← c.self.view_is)
    (recorded-by w new (commit n) t r (g.K.Records.shows c.args.records.now) (g.K.Records.shows c.commit-did.new.records) refl refl (commit-given t c.commit-did.result c.commit-did.ensures.reply c.commit-did.ensures.asked) refl refl left
    c.commit-did.ensures.records)
