use Rattle.std.proofs.Common.{sym, ap, ◌∙◌}
use Rattle.std.proofs.lemmas.Result.{on_ok_weaker, on_err_weaker}
use Rattle.repo_model.specs.Data as plain
use Rattle.repo_model.specs.Effect.{with_staged}
use Rattle.repo_model.specs.Shown.{shown_parcel}
use Rattle.repo_model.specs.State.{is_open_at}
use Rattle.deploy_session.specs.Shown.{shown_files, shown_sessions}
use Rattle.deploy_session.proofs.KnownLemmas.{written, unwritten, free_there}
use Rattle.deploy_session.proofs.SessionLaws.{same_first}
use Rattle.deploy_session.proofs.known.add_file.Goals as goal

pub returns-in_default-clause-ok : goal.returns-in_default-clause-ok
returns-in_default-clause-ok g c =
    ap (λ m. shown_sessions m.entries) c.get_mut.follows.holds-at-none
    ∙ unwritten c.args.number (λ (s : plain.Session). record s { staged = with_staged (record { path = c.args.path.now; blob = shown_parcel c.args.parcel }) s.staged }) c.args.known.now.entries (sym c.in_default.ensures.value)

pub add-requires : goal.add-requires
add-requires g c =
    (free_there c.args.number c.args.path.now c.args.known.now.entries c.in-Some.session.now c.get_mut.ensures.ordered (sym c.in-Some.ensures.value) c.requires).0

pub returns-clause-ok : goal.returns-clause-ok
returns-clause-ok g c =
    let s = c.in-Some.session.now in
    let es = c.args.known.now.entries in
    let there = sym c.in-Some.ensures.value in
    let so = (free_there c.args.number c.args.path.now es s c.get_mut.ensures.ordered there c.requires).1 in
    on_ok_weaker c.add.result (λ added. ap shown_sessions (c.get_mut.follows.holds _).0
    ∙ written c.args.number (λ (t : plain.Session). record t { staged = with_staged (record { path = c.args.path.now; blob = shown_parcel c.args.parcel }) t.staged }) es s _ there so
    (ap (λ (files : _). record { number = c.args.number; repo = s.repo; staged = files; ended = s.ended }) added)) c.add.ensures.ok

pub returns-clause-err : goal.returns-clause-err
returns-clause-err g c =
    let s = c.in-Some.session.now in
    let es = c.args.known.now.entries in
    let there = sym c.in-Some.ensures.value in
    let so = (free_there c.args.number c.args.path.now es s c.get_mut.ensures.ordered there c.requires).1 in
    on_err_weaker c.add.result (λ same. ap shown_sessions (c.get_mut.follows.holds _).0
    ∙ written c.args.number (λ (t : plain.Session). t) es s _ there so
    (ap (λ fs. record { number = c.args.number; repo = s.repo; staged = shown_files fs; ended = s.ended }) same)
    ∙ same_first (is_open_at c.args.number) (shown_sessions es)) c.add.ensures.err
