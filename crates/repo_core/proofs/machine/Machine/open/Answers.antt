use Rattle.std.proofs.Common.{refl, sym, ap, ◌∙◌, subst}
use Rattle.std.specs.Prelude.{if◌then◌else◌}
use Rattle.blob_yard.specs.Numbers.{Numbers}
use Rattle.deploy_session.specs.Known.{Known, begin_turn, known_after}
use Rattle.deploy_session.specs.Shown.{shown_begin}
use Rattle.repo_model.specs.Command.{open_session}
use Rattle.repo_model.specs.Reply.{is_free}
use Rattle.repo_model.specs.State.{State}
use Rattle.repo_parts.specs.Deploys.{AreStagedInUse}
use Rattle.repo_parts.specs.Hosted.{AreInUse}
use Rattle.repo_parts.specs.Proxies.{AreCachedInUse}
use Rattle.repo_core.specs.Whole.{Parts}
use Rattle.repo_core.proofs.DeployTurns.{due-or-free, open-all, open-left, open-next, turn-open}
use Rattle.repo_parts.proofs.StagedLemmas.{staged-opened}
use Rattle.row_tables.specs.Leaving.{MayTake}
use Rattle.repo_model.specs.Effect.{recorded}
use Rattle.repo_model.specs.Turn.{Turn}
use Rattle.repo_core.proofs.machine.Machine.open.Goals as goal
use Rattle.repo_core.proofs.Turning.{recorded-by, recorded-given}

pub invariant_of-self : goal.invariant_of-self
invariant_of-self g c =
    let k : Known = c.self.inside.sessions in
    let r = shown_begin c.begin-begun.result in
    let kept = c.self.inside.yard.kept in
    let repo = c.args.repo.now in
    let s : State = (c.self.view_is 0).state in
    let kept_so = sym (ap (λ (y : Numbers). y.kept) c.settle_begun.ensures) in
    let given = due-or-free (begin_turn k repo) r c.begin-begun.ensures.reply in
    record {
      moment = c.self.invariant.moment;
      shelved = c.self.invariant.shelved;
      blobs = subst (λ ns. AreInUse ns c.self.inside.repos.items) kept_so c.self.invariant.blobs;
      cached = subst (λ ns. AreCachedInUse ns c.self.inside.proxies.items) kept_so c.self.invariant.cached;
      proxy_rules = c.self.invariant.proxy_rules;
      rules = c.self.invariant.rules;
      staged = subst (λ ns. AreStagedInUse ns c.begin-begun.new.self.sessions) kept_so
          (subst (λ (q : Known). AreStagedInUse kept q.sessions) (sym c.begin-begun.ensures.sessions)
          (open-all (AreStagedInUse kept) repo k r c.self.invariant.staged (staged-opened kept k.next repo k.sessions c.self.invariant.staged)));
      numbers = ap (λ (y : Numbers). y.yard.next_session) c.settle_begun.ensures ∙ open-next s repo k refl (sym c.self.invariant.numbers) r given
          ∙ ap (λ (q : Known). q.next) (sym c.begin-begun.ensures.sessions);
    }

pub returns : goal.returns
returns g c =
    let k : Known = c.self.inside.sessions in
    let r = shown_begin c.begin-begun.result in
    let repo = c.args.repo.now in
    let s : State = (c.self.view_is 0).state in
    let w : Parts = c.self.view_is 0 in
    let new : Parts = record w { state = record s { sessions = c.begin-begun.new.self.sessions; yard = c.settle_begun.new.yard.yard } } in
    let given = due-or-free (begin_turn k repo) r c.begin-begun.ensures.reply in
    let left =
    ap (λ (q : Known). record s { sessions = q.sessions; yard = c.settle_begun.new.yard.yard }) c.begin-begun.ensures.sessions
    ∙ ap (λ (y : Numbers). record s { sessions = (if is_free r then k else known_after (begin_turn k repo).effects k).sessions; yard = y.yard }) c.settle_begun.ensures
    ∙ open-left s repo k refl (sym c.self.invariant.numbers) r given in
    rw (← c.self.view_is)
    (recorded-by w new (open_session repo) (begin_turn k repo) r (g.K.Records.shows c.args.records.now) (g.K.Records.shows c.begin-begun.new.records) (turn-open s repo k refl (sym c.self.invariant.numbers) w refl) refl
    (recorded-given (begin_turn k repo) r c.begin-begun.ensures.reply) refl refl left c.begin-begun.ensures.records)

pub begin-begun-requires : goal.begin-begun-requires
begin-begun-requires g c =
    let s : State = (c.self.view_is 0).state in
    let w : Parts = c.self.view_is 0 in
    let records = c.args.records.now in
    record {
      records =
          subst (λ (t : Turn). MayTake (recorded t.effects) (g.K.Records.shows records)) (turn-open s c.args.repo.now c.self.inside.sessions refl (sym c.self.invariant.numbers) w refl)
          (rw (← c.self.view_is) at c.requires.records);
    }
