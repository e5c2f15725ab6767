use Rattle.std.proofs.Common.{◌≡◌, Some, None, set, sym, ap, ◌∙◌}
use Rattle.std.specs.List.{position}
use Rattle.repo_model.specs.Data as plain
use Rattle.repo_model.specs.Effect.{with_row}
use Rattle.repo_model.specs.State.{is_repository}
use Rattle.blob_audit.specs.Files.{shown_file}
use Rattle.repo_restart.specs.Taking.{holding}
use Rattle.repo_restart.proofs.PlaceLemmas.{changed-at, kept-is, rows-at, unchanged}
use Rattle.repo_restart.proofs.taking.take_row.Goals as goal

pub returns-in_default : goal.returns-in_default
returns-in_default g c =
    let items = c.args.repos.now.items in
    let r = (shown_file c.args.file.now).row in
    let none : position (is_repository r.repo) items ≡ None = rw (c.as_str.ensures.value, c.deref.ensures.value) at (sym c.in_default.ensures) in
    sym (unchanged (is_repository r.repo) (λ (h : plain.Hosted). record h { rows = with_row (holding (g.H.Held.bytes c.args.parcel.held) r.row) h.rows }) items none)

pub restore-requires-clause-free : goal.restore-requires-clause-free
restore-requires-clause-free g c =
    let items = c.args.repos.now.items in
    let r = (shown_file c.args.file.now).row in
    let there : position (is_repository r.repo) items ≡ Some c.in-Some.place = rw (c.as_str.ensures.value, c.deref.ensures.value) at (sym c.in-Some.ensures) in
    let rows = rows-at r.repo items c.in-Some.place c.index_mut.result.now there c.index_mut.ensures.value in
    rw (c.as_str-2.ensures.value, ← rows) c.requires.free

pub restore-requires-clause-fading : goal.restore-requires-clause-fading
restore-requires-clause-fading g c = λ since e. rw c.as_str-2.ensures.value (c.requires.fading since (sym c.phase_of.ensures ∙ e))

pub returns-in-Ok : goal.returns-in-Ok
returns-in-Ok g c =
    let items = c.args.repos.now.items in
    let r = (shown_file c.args.file.now).row in
    let i = c.in-Some.place in
    let old = c.index_mut.result.now in
    let there : position (is_repository r.repo) items ≡ Some i = rw (c.as_str.ensures.value, c.deref.ensures.value) at (sym c.in-Some.ensures) in
    let row = kept-is r.row.path c.args.file.now.row.now c.args.parcel c.phase_of.result c.requires.number c.requires.print c.phase_of.ensures in
    let made : c.restore.new.self ≡ record old { rows = with_row (holding (g.H.Held.bytes c.args.parcel.held) r.row) old.rows } =
    (rw c.as_str-2.ensures.value at c.in-Ok.ensures.ok) ∙ ap (λ (one : plain.Row). record old { rows = with_row one old.rows }) row in
    ap (set items i) (made ∙ ap (λ (h : plain.Hosted). record h { rows = with_row (holding (g.H.Held.bytes c.args.parcel.held) r.row) h.rows }) c.index_mut.ensures.value)
    ∙ changed-at (is_repository r.repo) (λ (h : plain.Hosted). record h { rows = with_row (holding (g.H.Held.bytes c.args.parcel.held) r.row) h.rows }) items i old there
