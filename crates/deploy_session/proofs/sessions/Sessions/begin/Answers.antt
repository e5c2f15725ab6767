use Rattle.std.proofs.Common.{◌≡◌, ◌<◌, ◌+◌, ◌∷◌, [], false, eqb, sym, ap, ◌∙◌, subst, arith}
use Rattle.std.specs.Prelude.{count_by}
use Rattle.std.proofs.lemmas.Bool.{ne_eqb}
use Rattle.repo_model.specs.Effect.{opens, recorded}
use Rattle.repo_model.specs.Reply as reply
use Rattle.repo_model.specs.State.{is_open, most_sessions, number_end}
use Rattle.repo_model.specs.Turn.{Turn}
use Rattle.deploy_session.specs.Known.{Known, IsSound, begin_turn}
use Rattle.row_tables.specs.Leaving.{MayTake}
use Rattle.deploy_session.specs.Shown.{shown_sessions}
use Rattle.deploy_session.proofs.SessionLaws.{opens_so, sound_more}
use Rattle.deploy_session.proofs.sessions.Sessions.begin.Goals as goal

pub begin-requires-clause-records : goal.begin-requires-clause-records
begin-requires-clause-records g c =
    let y = c.self.inside in
    let repo = c.args.repo.now in
    let k : Known = record { sessions = shown_sessions y.known.entries; next = y.next } in
    let few : count_by is_open k.sessions < most_sessions = omega (arith, c.self.invariant.counted) in
    let left : eqb y.next number_end ≡ false = ne_eqb y.next number_end (λ e. absurd (omega (arith, e))) in
    let opened : Turn = record { reply = reply.opened y.next; effects = opens y.next repo ∷ [] } in
    let so : begin_turn c.args.self.now repo ≡ opened = ap (λ (h : Known). begin_turn h repo) (sym c.self.view_is) ∙ opens_so k repo few left in
    let records = c.args.records.now in
    subst (λ (t : Turn). MayTake (recorded t.effects) (g.K.Records.shows records)) so c.requires.records

pub invariant_of-self-2 : goal.invariant_of-self-2
invariant_of-self-2 g c =
    let y = c.self.inside in
    let left : y.next < number_end = omega (arith, c.self.invariant.last) in
    subst (IsSound (y.open_count + 1) (y.next + 1)) (sym c.in_default.ensures.ok) (sound_more y.open_count y.next c.args.repo.now (shown_sessions y.known.entries) left c.self.invariant)
