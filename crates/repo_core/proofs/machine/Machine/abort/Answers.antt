use Rattle.std.proofs.Common.{[], refl, sym, ap, ◌∙◌, subst}
use Rattle.std.specs.Prelude.{if◌then◌else◌}
use Rattle.blob_yard.specs.Numbers.{Numbers}
use Rattle.deploy_session.specs.Known.{Known, abort_turn, sessions_after_all}
use Rattle.deploy_session.specs.Shown.{shown_abort, blobs_left}
use Rattle.repo_model.specs.Command.{abort}
use Rattle.repo_model.specs.May.{AllMay}
use Rattle.repo_model.specs.Reply.{is_free}
use Rattle.repo_model.specs.State.{State}
use Rattle.repo_laws.proofs.Turns.{turn-can}
use Rattle.repo_parts.specs.Deploys.{AreStagedInUse}
use Rattle.repo_parts.specs.Hosted.{AreInUse}
use Rattle.repo_parts.specs.Proxies.{AreCachedInUse}
use Rattle.repo_parts.specs.Purge.{AreKeptOnce, condemned_by, kept_without}
use Rattle.repo_core.specs.Whole.{Parts}
use Rattle.repo_parts.proofs.EndTurns.{abort-gives, end-cached, end-files, end-left, end-once, end-rows, given-hosted, giving-going, known-if, next-if}
use Rattle.repo_parts.proofs.GarbageLemmas.{garbage_of}
use Rattle.settings_laws.proofs.Apart.{named-apart}
use Rattle.repo_core.proofs.machine.Machine.abort.Goals as goal
use Rattle.repo_core.proofs.Turning.{recorded-by, recorded-given}
use Rattle.repo_parts.proofs.SessionNumbers.{session-condemned}

pub condemn_left-requires : goal.condemn_left-requires
condemn_left-requires g c =
    let k : Known = c.self.inside.sessions in
    let n = c.args.number in
    let es = (abort_turn k n).effects in
    let orderly = rw (← c.self.view_is) at c.requires.orderly in
    let kept = c.self.inside.yard.kept in
    let s : State = (c.self.view_is 0).state in
    let settings = c.self.inside.settings in
    let may : AllMay settings.grace s.last s es = turn-can settings.grace s.last settings s orderly.order (named-apart settings orderly.form) (abort n) refl refl in
    subst (λ ns. AreKeptOnce ns kept) (sym c.abort-did.ensures.blobs)
    (end-once settings.grace s.last s es (giving-going es (abort-gives k n)) may orderly.places kept c.self.invariant.blobs c.self.invariant.staged (is_free (shown_abort c.abort-did.result)))

pub invariant_of-self : goal.invariant_of-self
invariant_of-self g c =
    let k : Known = c.self.inside.sessions in
    let n = c.args.number in
    let free = is_free (shown_abort c.abort-did.result) in
    let es = (abort_turn k n).effects in
    let gives = abort-gives k n in
    let going = giving-going es gives in
    let orderly = rw (← c.self.view_is) at c.requires.orderly in
    let kept = c.self.inside.yard.kept in
    let s : State = (c.self.view_is 0).state in
    let settings = c.self.inside.settings in
    let may : AllMay settings.grace s.last s es = turn-can settings.grace s.last settings s orderly.order (named-apart settings orderly.form) (abort n) refl refl in
    let rows = end-rows settings.grace s.last s es going may orderly.places kept c.self.invariant.blobs c.self.invariant.staged free in
    let files = end-files settings.grace s.last s es going may orderly.places kept c.self.invariant.blobs c.self.invariant.staged free in
    let left = c.abort-did.ensures.blobs in
    let kept_is = ap (λ (y : Numbers). y.kept) c.condemn_left.ensures ∙ ap (λ ns. kept_without ns kept) left in
    record {
      moment = c.self.invariant.moment;
      shelved = c.self.invariant.shelved;
      blobs = subst (λ ns. AreInUse ns s.hosted) (sym kept_is) (subst (AreInUse _) (given-hosted free es s.hosted gives) rows);
      cached = subst (λ ns. AreCachedInUse ns s.proxies) (sym kept_is)
          (end-cached settings.grace s.last s es going may orderly.places kept c.self.invariant.blobs c.self.invariant.staged c.self.invariant.cached free);
      proxy_rules = c.self.invariant.proxy_rules;
      rules = c.self.invariant.rules;
      staged = subst (λ ns. AreStagedInUse ns c.abort-did.new.self.sessions) (sym kept_is)
          (subst (AreStagedInUse _) (sym (ap (λ (q : Known). q.sessions) c.abort-did.ensures.sessions ∙ known-if free es k)) files);
      numbers = ap (λ (y : Numbers). y.yard.next_session) c.condemn_left.ensures ∙ session-condemned (blobs_left c.abort-did.result) s.yard ∙ c.self.invariant.numbers
          ∙ sym (ap (λ (q : Known). q.next) c.abort-did.ensures.sessions ∙ next-if free es k going);
    }

pub returns : goal.returns
returns g c =
    let k : Known = c.self.inside.sessions in
    let n = c.args.number in
    let r = shown_abort c.abort-did.result in
    let free = is_free r in
    let t = abort_turn k n in
    let es = t.effects in
    let gives = abort-gives k n in
    let going = giving-going es gives in
    let orderly = rw (← c.self.view_is) at c.requires.orderly in
    let kept = c.self.inside.yard.kept in
    let s : State = (c.self.view_is 0).state in
    let settings = c.self.inside.settings in
    let w : Parts = c.self.view_is 0 in
    let new : Parts = record w { state = record s { sessions = c.abort-did.new.self.sessions; yard = c.condemn_left.new.yard.yard } } in
    let may : AllMay settings.grace s.last s es = turn-can settings.grace s.last settings s orderly.order (named-apart settings orderly.form) (abort n) refl refl in
    let left =
    ap (λ ss. record s { sessions = ss; yard = c.condemn_left.new.yard.yard }) (ap (λ (q : Known). q.sessions) c.abort-did.ensures.sessions ∙ known-if free es k)
    ∙ ap (λ (y : Numbers). record s { sessions = (if free then s.sessions else sessions_after_all es s.sessions); yard = y.yard }) c.condemn_left.ensures
    ∙ ap (λ ns. record s { sessions = (if free then s.sessions else sessions_after_all es s.sessions); yard = condemned_by ns s.yard }) c.abort-did.ensures.blobs
    ∙ ap (λ hs. record s { hosted = hs; sessions = (if free then s.sessions else sessions_after_all es s.sessions); yard = condemned_by (if free then [] else garbage_of es) s.yard }) (sym (given-hosted free es s.hosted gives))
    ∙ end-left settings.grace s.last s es going may orderly.places kept c.self.invariant.blobs c.self.invariant.staged free in
    rw (← c.self.view_is)
    (recorded-by w new (abort n) t r (g.K.Records.shows c.args.records.now) (g.K.Records.shows c.abort-did.new.records) refl refl (recorded-given t r c.abort-did.ensures.reply) refl refl left c.abort-did.ensures.records)
