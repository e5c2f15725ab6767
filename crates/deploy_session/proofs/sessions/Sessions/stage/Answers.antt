use Rattle.std.proofs.Common.{◌≡◌, ◌≤◌, ◌&&◌, true, List, sym, ap, ◌∙◌, refl, subst, arith}
use Rattle.std.specs.Prelude.{find}
use Rattle.std.proofs.lemmas.Bool.{and_from, le-leb}
use Rattle.repo_model.specs.Data as plain
use Rattle.repo_model.specs.Effect.{Effect, with_staged}
use Rattle.repo_model.specs.Shown.{shown_parcel}
use Rattle.repo_model.specs.State.{is_open_at}
use Rattle.row_tables.specs.Items.{is_count, is_file_path, is_number}
use Rattle.deploy_session.specs.Known.{Known, IsSound, is_recordable, known_after, sessions_after_all, next_after_all, stage_turn}
use Rattle.deploy_session.specs.Shown.{shown_sessions}
use Rattle.deploy_session.proofs.SessionLaws.{staged_free, staged_effects, staged_room, is_open_so, recordable_more, sound_kept}
use Rattle.deploy_session.proofs.sessions.Sessions.stage.Goals as goal

pub add_file-requires : goal.add_file-requires
add_file-requires g c =
    let blob = shown_parcel c.args.parcel in
    let ss = shown_sessions c.self.inside.known.entries in
    staged_free c.args.path.now blob.number blob (find (is_open_at c.args.session) ss) (c.in_default.ensures blob.number blob (sym c.print_of-sent.ensures))

pub invariant_of-self-2 : goal.invariant_of-self-2
invariant_of-self-2 g c =
    let y = c.self.inside in
    let file : plain.Staged = record { path = c.args.path.now; blob = shown_parcel c.args.parcel } in
    let short : c.args.parcel.length ≤ 9223372036854775807 = omega (arith, c.requires.length) in
    let is : is_recordable file ≡ true =
    and_from (is_file_path file.path) (is_number file.blob.number && is_count file.blob.print.length) c.requires.path
    (and_from (is_number file.blob.number) (is_count file.blob.print.length) c.requires.blob (le-leb c.args.parcel.length 9223372036854775807 short)) in
    let blob = shown_parcel c.args.parcel in
    let ss = shown_sessions y.known.entries in
    let o = find (is_open_at c.args.session) ss in
    subst (IsSound y.open_count y.next) (sym c.in-Ok.ensures.ok)
    (sound_kept y.open_count y.next (is_open_at c.args.session) (λ (s : plain.Session). record s { staged = with_staged file s.staged }) (λ s. refl) (λ s. refl) ss
    (λ s found all.
    let room = staged_room c.args.path.now blob.number blob o s found (c.in_default.ensures blob.number blob (sym c.print_of-sent.ensures)) in
    recordable_more file s is room.0 room.1 all) c.self.invariant)

pub returns-clause-sessions : goal.returns-clause-sessions
returns-clause-sessions g c =
    let blob = shown_parcel c.args.parcel in
    let y = c.self.inside in
    let ss = shown_sessions y.known.entries in
    let n = c.args.session in
    let o = find (is_open_at n) ss in
    let effects = staged_effects n c.args.path.now blob.number blob o (λ (s : plain.Session) is. (is_open_so n ss s is).0) (c.in_default.ensures blob.number blob (sym c.print_of-sent.ensures)) in
    let after : List Effect → Known = λ es. record { sessions = sessions_after_all es ss; next = next_after_all es y.next } in
    ap (λ (ts : List plain.Session). record { sessions = ts; next = y.next }) c.in-Ok.ensures.ok
    ∙ sym (ap after effects)
    ∙ ap (λ (k : Known). known_after (stage_turn k n c.args.path.now blob).effects k) c.self.view_is
