use Rattle.std.proofs.Common.{◌≡◌, ℕ, ◌≤◌, ◌-◌, false, cond, List, [], ◌∷◌, ◌++◌, length, Some, inl, inr, rules, sym, ap, ◌∙◌, refl, subst, arith}
use Rattle.std.specs.Prelude.{find, is_some}
use Rattle.std.specs.List.{flat_map}
use Rattle.std.proofs.lemmas.Bool.{both_ways}
use Rattle.std.proofs.lemmas.List.{length-map}
use Rattle.repo_model.specs.declared.item.Item.{Item}
use Rattle.repo_model.specs.declared.item.Item.TheVariants.{SessionEnded}
use Rattle.repo_model.specs.declared.session.SessionResult.TheVariants.{Done}
use Rattle.repo_model.specs.Data as plain
use Rattle.repo_model.specs.Deploy.{deliver_all, offence, without_pom}
use Rattle.repo_model.specs.Effect.{Effect, ends, recorded}
use Rattle.repo_model.specs.Reply.{Reply, is_free}
use Rattle.repo_model.specs.State.{change_first, is_open_at, most_staged}
use Rattle.repo_model.specs.Turn.{Turn, commit_by}
use Rattle.row_tables.specs.Leaving.{FitWhereTold, Leaves, done, end_by}
use Rattle.hosted_delivery.specs.Deliveries.{deliveries, is_done, session_with}
use Rattle.ordered_rows.specs.Rows.{rows_after_all}
use Rattle.deploy_session.specs.Known.{Known, IsSound, commit_turn, garbage_by, known_after}
use Rattle.deploy_session.specs.Shown.{shown_commit, shown_file, shown_session, shown_sessions}
use Rattle.deploy_session.proofs.CommitLaws.{blobs-ended, done-clear, done-effects, due-reply, end-formed, fault-of, items-ended, next-ended, not-empty, quiet, recordable-there, refused-quiet, reply-alike, rows-ended, sessions-ended, turn-of}
use Rattle.deploy_session.proofs.CrashLaws.{refused-leaves}
use Rattle.deploy_session.proofs.SessionLaws.{number_range, open_of_session, sound_fewer}
use Rattle.deploy_session.proofs.sessions.Sessions.commit.Goals as goal

pub put_all-requires-clause-files : goal.put_all-requires-clause-files
put_all-requires-clause-files g c =
    (recordable-there c.args.session (shown_sessions c.self.inside.known.entries) (shown_session (c.args.session, c.in-Some.found.now)) (sym c.in-Some.ensures) c.self.invariant.formed).0

pub put_all-requires-clause-few : goal.put_all-requires-clause-few
put_all-requires-clause-few g c =
    omega (arith, (recordable-there c.args.session (shown_sessions c.self.inside.known.entries) (shown_session (c.args.session, c.in-Some.found.now)) (sym c.in-Some.ensures) c.self.invariant.formed).1)

pub put_all-requires-clause-also : goal.put_all-requires-clause-also
put_all-requires-clause-also g c =
    let y = c.self.inside in
    let h = c.self.invariant in
    let ss = shown_sessions y.known.entries in
    let one : plain.Session = shown_session (c.args.session, c.in-Some.found.now) in
    let range = number_range y.next c.args.session ss one h.last h.drawn (sym c.in-Some.ensures) in
    let few : c.len.result ≤ most_staged = omega (arith, (recordable-there c.args.session ss one (sym c.in-Some.ensures) h.formed).1, length-map c.in-Some.found.now.files.entries shown_file, c.len.ensures.len) in
    end-formed c.args.session c.len.result range.0 range.1 few

pub put_all-requires-clause-fits : goal.put_all-requires-clause-fits
put_all-requires-clause-fits g c none bare =
    let n = c.args.session in
    let y = c.self.inside in
    let h = c.args.hosted.now in
    let ss = shown_sessions y.known.entries in
    let k : Known = record { sessions = ss; next = y.next } in
    let one : plain.Session = shown_session (n, c.in-Some.found.now) in
    let there = open_of_session n ss one (sym c.in-Some.ensures) c.in_default-ended.is in
    let same = c.requires.repository one (ap (λ (j : Known). find (is_open_at n) j.sessions) (sym c.self.view_is) ∙ there) in
    let count : length one.staged ≡ c.len.result = omega (arith, length-map c.in-Some.found.now.files.entries shown_file, c.len.ensures.len) in
    subst (FitWhereTold (g.K.Records.shows c.args.records.now).tables)
    (ap recorded (done-effects c.args.self.now k n c.args.now h.rows one c.self.view_is (sym c.in-Some.ensures) c.in_default-ended.is none bare)
    ∙ items-ended one h.rule.id same c.args.now h.rows (Done (length one.staged))
    ∙ ap (λ m. recorded (deliveries h one.staged c.args.now) ++ SessionEnded n (Done m) ∷ []) count) c.requires.records.fits

pub end-requires : goal.end-requires
end-requires g c =
    ap is_some (open_of_session c.args.session (shown_sessions c.self.inside.known.entries) (shown_session (c.args.session, c.in-Some.found.now)) (sym c.in-Some.ensures) c.in_default-ended.is)

pub overflow_sub-self : goal.overflow_sub-self
overflow_sub-self g c =
    let n = c.args.session in
    let y = c.self.inside in
    let ss = shown_sessions y.known.entries in
    let one : plain.Session = shown_session (n, c.in-Some.found.now) in
    let fewer = sound_fewer y.open_count y.next n (Done c.len.result) ss one (open_of_session n ss one (sym c.in-Some.ensures) c.in_default-ended.is) c.self.invariant in
    omega (arith, fewer.0)

pub invariant_of-self : goal.invariant_of-self
invariant_of-self g c =
    let n = c.args.session in
    let y = c.self.inside in
    let ss = shown_sessions y.known.entries in
    let one : plain.Session = shown_session (n, c.in-Some.found.now) in
    let fewer = sound_fewer y.open_count y.next n (Done c.len.result) ss one (open_of_session n ss one (sym c.in-Some.ensures) c.in_default-ended.is) c.self.invariant in
    subst (IsSound (y.open_count - 1) y.next) (sym c.end.ensures) fewer.1

pub returns-in-Done-clause-sessions : goal.returns-in-Done-clause-sessions
returns-in-Done-clause-sessions g c =
    let n = c.args.session in
    let now = c.args.now in
    let y = c.self.inside in
    let h = c.args.hosted.now in
    let ss = shown_sessions y.known.entries in
    let k : Known = record { sessions = ss; next = y.next } in
    let one : plain.Session = shown_session (n, c.in-Some.found.now) in
    let there = open_of_session n ss one (sym c.in-Some.ensures) c.in_default-ended.is in
    let count : c.len.result ≡ length one.staged = omega (arith, length-map c.in-Some.found.now.files.entries shown_file, c.len.ensures.len) in
    let clear = done-clear (session_with h.rule.id one.staged) now h.rows (offence h.rows one.staged) (without_pom h.rows one.staged) (Done c.in-Done.count) (due-reply c.in-Done.ensures.reply) in
    let how = Done (length one.staged) in
    let es : List Effect = deliver_all one now h.rows ++ ends n how ∷ [] in
    ap (λ (ts : List plain.Session). record { sessions = ts; next = y.next })
    (c.end.ensures
    ∙ ap (λ m. change_first (is_open_at n) (λ (s : plain.Session). record s { staged = []; ended = Some (Done m) }) ss) count
    ∙ sym (sessions-ended one now h.rows how ss there))
    ∙ ap (λ (m : ℕ). record { sessions = (known_after es k).sessions; next = m }) (sym (next-ended one now h.rows how y.next))
    ∙ sym (ap (λ (some : List Effect). known_after some k) (done-effects k k n now h.rows one refl (sym c.in-Some.ensures) c.in_default-ended.is clear.0 clear.1))
    ∙ ap (λ (j : Known). known_after (commit_turn j n now h.rows).effects j) c.self.view_is

pub returns-in-Done-clause-rows : goal.returns-in-Done-clause-rows
returns-in-Done-clause-rows g c =
    let n = c.args.session in
    let now = c.args.now in
    let y = c.self.inside in
    let h : plain.Hosted = c.args.hosted.now in
    let ss = shown_sessions y.known.entries in
    let k : Known = record { sessions = ss; next = y.next } in
    let one : plain.Session = shown_session (n, c.in-Some.found.now) in
    let there = open_of_session n ss one (sym c.in-Some.ensures) c.in_default-ended.is in
    let same = c.requires.repository one (ap (λ (j : Known). find (is_open_at n) j.sessions) (sym c.self.view_is) ∙ there) in
    let clear = done-clear (session_with h.rule.id one.staged) now h.rows (offence h.rows one.staged) (without_pom h.rows one.staged) (Done c.in-Done.count) (due-reply c.in-Done.ensures.reply) in
    c.in-Done.ensures.rows
    ∙ ap (λ (rs : List plain.Row). record h { rows = rs })
    (sym (ap (λ (es : List Effect). rows_after_all es h.rows) (done-effects c.args.self.now k n now h.rows one c.self.view_is (sym c.in-Some.ensures) c.in_default-ended.is clear.0 clear.1)
    ∙ rows-ended one h.rule.id same now h.rows (Done (length one.staged)) h.rows))

pub returns-in-Done-clause-blobs : goal.returns-in-Done-clause-blobs
returns-in-Done-clause-blobs g c =
    let n = c.args.session in
    let now = c.args.now in
    let y = c.self.inside in
    let h = c.args.hosted.now in
    let ss = shown_sessions y.known.entries in
    let k : Known = record { sessions = ss; next = y.next } in
    let one : plain.Session = shown_session (n, c.in-Some.found.now) in
    let there = open_of_session n ss one (sym c.in-Some.ensures) c.in_default-ended.is in
    let same = c.requires.repository one (ap (λ (j : Known). find (is_open_at n) j.sessions) (sym c.self.view_is) ∙ there) in
    let clear = done-clear (session_with h.rule.id one.staged) now h.rows (offence h.rows one.staged) (without_pom h.rows one.staged) (Done c.in-Done.count) (due-reply c.in-Done.ensures.reply) in
    c.in-Done.ensures.blobs
    ∙ sym (ap (flat_map garbage_by) (done-effects c.args.self.now k n now h.rows one c.self.view_is (sym c.in-Some.ensures) c.in_default-ended.is clear.0 clear.1)
    ∙ blobs-ended one h.rule.id same now h.rows (Done (length one.staged)))

pub returns-in-Done-clause-records : goal.returns-in-Done-clause-records
returns-in-Done-clause-records g c =
    let n = c.args.session in
    let now = c.args.now in
    let y = c.self.inside in
    let h = c.args.hosted.now in
    let ss = shown_sessions y.known.entries in
    let k : Known = record { sessions = ss; next = y.next } in
    let one : plain.Session = shown_session (n, c.in-Some.found.now) in
    let there = open_of_session n ss one (sym c.in-Some.ensures) c.in_default-ended.is in
    let same = c.requires.repository one (ap (λ (j : Known). find (is_open_at n) j.sessions) (sym c.self.view_is) ∙ there) in
    let count : c.len.result ≡ length one.staged = omega (arith, length-map c.in-Some.found.now.files.entries shown_file, c.len.ensures.len) in
    let clear = done-clear (session_with h.rule.id one.staged) now h.rows (offence h.rows one.staged) (without_pom h.rows one.staged) (Done c.in-Done.count) (due-reply c.in-Done.ensures.reply) in
    subst (λ (items : List Item). Leaves items done (g.K.Records.shows c.args.records.now) (g.K.Records.shows c.put_all.new.records))
    (ap (λ m. recorded (deliveries h one.staged now) ++ SessionEnded n (Done m) ∷ []) count
    ∙ sym (ap recorded (done-effects c.args.self.now k n now h.rows one c.self.view_is (sym c.in-Some.ensures) c.in_default-ended.is clear.0 clear.1)
    ∙ items-ended one h.rule.id same now h.rows (Done (length one.staged))))
    c.in-Done.ensures.records

pub returns-in_default-put_all : goal.returns-in_default-put_all
returns-in_default-put_all g c =
    let n = c.args.session in
    let now = c.args.now in
    let self : Known = c.args.self.now in
    let y = c.self.inside in
    let h : plain.Hosted = c.args.hosted.now in
    let ss = shown_sessions y.known.entries in
    let k : Known = record { sessions = ss; next = y.next } in
    let one : plain.Session = shown_session (n, c.in-Some.found.now) in
    let answer = c.put_all.result in
    let refused : is_done answer ≡ false = search rules in
    let there = open_of_session n ss one (sym c.in-Some.ensures) c.in_default-ended.is in
    let same = c.requires.repository one (ap (λ (j : Known). find (is_open_at n) j.sessions) (sym c.self.view_is) ∙ there) in
    let count : length one.staged ≡ c.len.result = omega (arith, length-map c.in-Some.found.now.files.entries shown_file, c.len.ensures.len) in
    let other = session_with h.rule.id one.staged in
    let against = offence h.rows one.staged in
    let bare = without_pom h.rows one.staged in
    let turn : commit_turn self n now h.rows ≡ commit_by one now h.rows against bare = turn-of self k n now h.rows one c.self.view_is (sym c.in-Some.ensures) c.in_default-ended.is in
    let none : is_free (shown_commit c.refused.result) ≡ false → (commit_turn self n now h.rows).effects ≡ [] =
    λ not. elim c.put_all.ensures.reply [
      | inl due ↦ ap (λ (t : Turn). t.effects) turn ∙ refused-quiet one now h.rows against bare answer (due ∙ reply-alike other one now h.rows against bare refl) refused
      | inr free ↦ absurd (both_ways (is_free (shown_commit c.refused.result)) not (ap is_free c.refused.ensures.reply ∙ free))
    ] in
    record {
      reply = elim c.put_all.ensures.reply [
        | inl due ↦ inl (c.refused.ensures.reply ∙ due ∙ reply-alike other one now h.rows against bare refl ∙ sym (ap (λ (t : Turn). t.reply) turn))
        | inr free ↦ inr (ap is_free c.refused.ensures.reply ∙ free)
      ];
      asked = λ failed empty.
          let clear = c.put_all.ensures.asked (fault-of answer (sym c.refused.ensures.reply ∙ ap shown_commit failed)) in
          not-empty (recorded (deliveries h one.staged now)) (SessionEnded n (Done (length one.staged)))
          (sym (ap recorded (done-effects self k n now h.rows one c.self.view_is (sym c.in-Some.ensures) c.in_default-ended.is clear.0 clear.1)
          ∙ items-ended one h.rule.id same now h.rows (Done (length one.staged))) ∙ empty);
      sessions = quiet (is_free (shown_commit c.refused.result)) self (known_after (commit_turn self n now h.rows).effects self) (λ not. ap (λ (es : List Effect). known_after es self) (none not));
      rows = c.put_all.ensures.rows
          ∙ ap (λ b. cond b (record h { rows = rows_after_all (deliveries h one.staged now) h.rows }) h) refused
          ∙ quiet (is_free (shown_commit c.refused.result)) h (record h { rows = rows_after_all (commit_turn self n now h.rows).effects h.rows })
          (λ not. ap (λ (es : List Effect). record h { rows = rows_after_all es h.rows }) (none not));
      blobs = c.refused.ensures.blobs
          ∙ quiet (is_free (shown_commit c.refused.result)) [] (flat_map garbage_by (commit_turn self n now h.rows).effects) (λ not. ap (flat_map garbage_by) (none not));
      records = subst (λ (r : Reply). Leaves (recorded (commit_turn self n now h.rows).effects) (end_by r) (g.K.Records.shows c.args.records.now) (g.K.Records.shows c.put_all.new.records)) (sym c.refused.ensures.reply)
          (refused-leaves (g.K.Records.shows c.args.records.now) (g.K.Records.shows c.put_all.new.records) (recorded (deliveries h one.staged now) ++ SessionEnded n (Done c.len.result) ∷ []) (recorded (commit_turn self n now h.rows).effects) answer refused
          c.put_all.ensures.records
          (λ not. ap recorded (none (ap is_free c.refused.ensures.reply ∙ not)))
          (λ failed.
          let clear = c.put_all.ensures.asked failed in
          sym (ap recorded (done-effects self k n now h.rows one c.self.view_is (sym c.in-Some.ensures) c.in_default-ended.is clear.0 clear.1)
          ∙ items-ended one h.rule.id same now h.rows (Done (length one.staged))
          ∙ ap (λ m. recorded (deliveries h one.staged now) ++ SessionEnded n (Done m) ∷ []) count)));
    }
