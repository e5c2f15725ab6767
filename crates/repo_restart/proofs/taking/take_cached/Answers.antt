use Rattle.std.proofs.Common.{◌≡◌, Some, None, set, sym, ap, ◌∙◌}
use Rattle.std.specs.List.{position}
use Rattle.repo_model.specs.Data as plain
use Rattle.repo_model.specs.Effect.{with_row}
use Rattle.repo_model.specs.State.{is_proxy}
use Rattle.blob_audit.specs.Files.{shown_file}
use Rattle.repo_restart.specs.Taking.{holding}
use Rattle.repo_restart.proofs.PlaceLemmas.{changed-at, file-is, files-at, unchanged}
use Rattle.repo_restart.proofs.taking.take_cached.Goals as goal

pub returns-in_default : goal.returns-in_default
returns-in_default g c =
    let items = c.args.proxies.now.items in
    let r = (shown_file c.args.file.now).row in
    let none : position (is_proxy r.repo) items ≡ None = rw (c.as_str.ensures.value, c.deref.ensures.value) at (sym c.in_default.ensures) in
    sym (unchanged (is_proxy r.repo) (λ (p : plain.Proxy). record p { files = with_row (holding (g.H.Held.bytes c.args.parcel.held) r.row) p.files }) items none)

pub restore_file-requires-clause-free : goal.restore_file-requires-clause-free
restore_file-requires-clause-free g c =
    let items = c.args.proxies.now.items in
    let r = (shown_file c.args.file.now).row in
    let there : position (is_proxy r.repo) items ≡ Some c.in-Some.place = rw (c.as_str.ensures.value, c.deref.ensures.value) at (sym c.in-Some.ensures) in
    let files = files-at r.repo items c.in-Some.place c.index_mut.result.now there c.index_mut.ensures.value in
    rw (c.as_str-2.ensures.value, ← files) c.requires.free

pub returns-in-Ok : goal.returns-in-Ok
returns-in-Ok g c =
    let items = c.args.proxies.now.items in
    let r = (shown_file c.args.file.now).row in
    let i = c.in-Some.place in
    let old = c.index_mut.result.now in
    let there : position (is_proxy r.repo) items ≡ Some i = rw (c.as_str.ensures.value, c.deref.ensures.value) at (sym c.in-Some.ensures) in
    let row = file-is r.row.path c.args.file.now.row.now c.args.parcel c.requires.number c.requires.print c.requires.visible in
    let made : c.restore_file.new.self ≡ record old { files = with_row (holding (g.H.Held.bytes c.args.parcel.held) r.row) old.files } =
    (rw c.as_str-2.ensures.value at c.in-Ok.ensures.ok) ∙ ap (λ (one : plain.Row). record old { files = with_row one old.files }) row in
    ap (set items i) (made ∙ ap (λ (p : plain.Proxy). record p { files = with_row (holding (g.H.Held.bytes c.args.parcel.held) r.row) p.files }) c.index_mut.ensures.value)
    ∙ changed-at (is_proxy r.repo) (λ (p : plain.Proxy). record p { files = with_row (holding (g.H.Held.bytes c.args.parcel.held) r.row) p.files }) items i old there
