use Rattle.std.proofs.Common.{◌≡◌, ℕ, ◌-◌, List, Err, sym, ap, ◌∙◌, refl, subst, arith}
use Rattle.std.specs.Prelude.{is_some}
use Rattle.std.specs.List.{flat_map}
use Rattle.repo_model.specs.declared.item.Item.{Item}
use Rattle.repo_model.specs.declared.session.SessionResult.TheVariants.{Aborted}
use Rattle.repo_model.specs.Data as plain
use Rattle.repo_model.specs.Effect.{Effect, recorded}
use Rattle.repo_model.specs.Turn.{Turn}
use Rattle.deploy_session.specs.Known.{Known, IsSound, abort_turn, garbage_by, known_after}
use Rattle.row_tables.specs.Leaving.{Leaves, MayTake, done, end_of}
use Rattle.deploy_session.specs.Shown.{shown_abort, shown_files, shown_session, shown_sessions}
use Rattle.deploy_session.proofs.CrashLaws.{failed-leaves}
use Rattle.deploy_session.proofs.SessionLaws.{abort_so, aborted, garbage_aborted, gone, next_aborted, number_range, open_of_session, recorded_aborted, sound_fewer}
use Rattle.deploy_session.proofs.sessions.Sessions.abort.Goals as goal

pub give_up-requires-clause-first : goal.give_up-requires-clause-first
give_up-requires-clause-first g c =
    let y = c.self.inside in
    let h = c.self.invariant in
    (number_range y.next c.args.session (shown_sessions y.known.entries) (shown_session (c.args.session, c.in-Some.found.now)) h.last h.drawn (sym c.in-Some.ensures)).0

pub give_up-requires-clause-last : goal.give_up-requires-clause-last
give_up-requires-clause-last g c =
    let y = c.self.inside in
    let h = c.self.invariant in
    (number_range y.next c.args.session (shown_sessions y.known.entries) (shown_session (c.args.session, c.in-Some.found.now)) h.last h.drawn (sym c.in-Some.ensures)).1

pub give_up-requires-clause-there : goal.give_up-requires-clause-there
give_up-requires-clause-there g c =
    ap is_some (open_of_session c.args.session (shown_sessions c.self.inside.known.entries) (shown_session (c.args.session, c.in-Some.found.now)) (sym c.in-Some.ensures) c.in_default-ended.is)

pub give_up-requires-clause-records : goal.give_up-requires-clause-records
give_up-requires-clause-records g c =
    let n = c.args.session in
    let y = c.self.inside in
    let files = shown_files c.in-Some.found.now.files.entries in
    let k : Known = record { sessions = shown_sessions y.known.entries; next = y.next } in
    let records = c.args.records.now in
    let so : abort_turn c.args.self.now n ≡ gone n files =
    ap (λ (h : Known). abort_turn h n) (sym c.self.view_is) ∙ abort_so k n (shown_session (n, c.in-Some.found.now)) (sym c.in-Some.ensures) c.in_default-ended.is refl in
    subst (λ (items : List Item). MayTake items (g.K.Records.shows records)) (recorded_aborted n Aborted files)
    (subst (λ (t : Turn). MayTake (recorded t.effects) (g.K.Records.shows records)) so c.requires.records)

pub overflow_sub-self : goal.overflow_sub-self
overflow_sub-self g c =
    let n = c.args.session in
    let y = c.self.inside in
    let ss = shown_sessions y.known.entries in
    let one : plain.Session = shown_session (n, c.in-Some.found.now) in
    let fewer = sound_fewer y.open_count y.next n Aborted ss one (open_of_session n ss one (sym c.in-Some.ensures) c.in_default-ended.is) c.self.invariant in
    omega (arith, fewer.0)

pub invariant_of-self-2 : goal.invariant_of-self-2
invariant_of-self-2 g c =
    let n = c.args.session in
    let y = c.self.inside in
    let ss = shown_sessions y.known.entries in
    let one : plain.Session = shown_session (n, c.in-Some.found.now) in
    let fewer = sound_fewer y.open_count y.next n Aborted ss one (open_of_session n ss one (sym c.in-Some.ensures) c.in_default-ended.is) c.self.invariant in
    subst (IsSound (y.open_count - 1) y.next) (sym c.in_default-give_up.ensures.ok) fewer.1

pub returns-clause-sessions : goal.returns-clause-sessions
returns-clause-sessions g c =
    let n = c.args.session in
    let y = c.self.inside in
    let ss = shown_sessions y.known.entries in
    let one : plain.Session = shown_session (n, c.in-Some.found.now) in
    let there = open_of_session n ss one (sym c.in-Some.ensures) c.in_default-ended.is in
    let k : Known = record { sessions = ss; next = y.next } in
    let es : List Effect = (gone n one.staged).effects in
    ap (λ (ts : List plain.Session). record { sessions = ts; next = y.next }) (c.in_default-give_up.ensures.ok ∙ sym (aborted n Aborted one ss there))
    ∙ ap (λ (m : ℕ). record { sessions = (known_after es k).sessions; next = m }) (sym (next_aborted n Aborted one.staged y.next))
    ∙ sym (ap (λ (t : Turn). known_after t.effects k) (abort_so k n one (sym c.in-Some.ensures) c.in_default-ended.is refl))
    ∙ ap (λ (h : Known). known_after (abort_turn h n).effects h) c.self.view_is

pub returns-clause-blobs : goal.returns-clause-blobs
returns-clause-blobs g c =
    let n = c.args.session in
    let y = c.self.inside in
    let files = shown_files c.in-Some.found.now.files.entries in
    let k : Known = record { sessions = shown_sessions y.known.entries; next = y.next } in
    let so : abort_turn c.args.self.now n ≡ gone n files =
    ap (λ (h : Known). abort_turn h n) (sym c.self.view_is) ∙ abort_so k n (shown_session (n, c.in-Some.found.now)) (sym c.in-Some.ensures) c.in_default-ended.is refl in
    c.from_vec.ensures ∙ c.in-Ok.ensures ∙ sym (garbage_aborted n Aborted files) ∙ sym (ap (λ (t : Turn). flat_map garbage_by t.effects) so)

pub returns-clause-records : goal.returns-clause-records
returns-clause-records g c =
    let n = c.args.session in
    let y = c.self.inside in
    let files = shown_files c.in-Some.found.now.files.entries in
    let k : Known = record { sessions = shown_sessions y.known.entries; next = y.next } in
    let so : abort_turn c.args.self.now n ≡ gone n files =
    ap (λ (h : Known). abort_turn h n) (sym c.self.view_is) ∙ abort_so k n (shown_session (n, c.in-Some.found.now)) (sym c.in-Some.ensures) c.in_default-ended.is refl in
    subst (λ (items : List Item). Leaves items done (g.K.Records.shows c.args.records.now) (g.K.Records.shows c.give_up.new.records))
    (sym (ap (λ (t : Turn). recorded t.effects) so ∙ recorded_aborted n Aborted files)) c.in_default-give_up.ensures.records

pub returns-in-Err-clause-records : goal.returns-in-Err-clause-records
returns-in-Err-clause-records g c =
    let n = c.args.session in
    let y = c.self.inside in
    let files = shown_files c.in-Some.found.now.files.entries in
    let k : Known = record { sessions = shown_sessions y.known.entries; next = y.next } in
    let due : List Item = recorded (abort_turn c.args.self.now n).effects in
    let so : abort_turn c.args.self.now n ≡ gone n files =
    ap (λ (h : Known). abort_turn h n) (sym c.self.view_is) ∙ abort_so k n (shown_session (n, c.in-Some.found.now)) (sym c.in-Some.ensures) c.in_default-ended.is refl in
    failed-leaves (g.K.Records.shows c.args.records.now) (g.K.Records.shows c.give_up.new.records) due c.in-Err.fault (shown_abort c.failed.result) c.failed.ensures.reply
    (subst (λ (items : List Item). Leaves items (end_of {T = Unit {0}} (Err c.in-Err.fault)) (g.K.Records.shows c.args.records.now) (g.K.Records.shows c.give_up.new.records))
    (sym (ap (λ (t : Turn). recorded t.effects) so ∙ recorded_aborted n Aborted files)) c.in-Err.ensures.records)
