use Rattle.std.proofs.Common.{◌≡◌, Some, None, set, sym, ap, ◌∙◌}
use Rattle.std.specs.List.{position}
use Rattle.repo_model.specs.Data as plain
use Rattle.repo_model.specs.Effect.{with_kept}
use Rattle.repo_model.specs.State.{is_proxy}
use Rattle.row_tables.specs.Stored.{shown_document}
use Rattle.repo_restart.specs.Taking.{kept_of}
use Rattle.repo_restart.proofs.PlaceLemmas.{changed-at, unchanged}
use Rattle.repo_restart.proofs.proxies.take_document.Goals as goal

pub returns-in_default : goal.returns-in_default
returns-in_default g c =
    let items = c.args.proxies.now.items in
    let d = shown_document (c.args.place.now, c.args.kept.now) in
    let none : position (is_proxy d.repo) items ≡ None = rw (c.as_str.ensures.value, c.deref.ensures.value) at (sym c.in_default.ensures) in
    sym (unchanged (is_proxy d.repo) (λ (p : plain.Proxy). record p { documents = with_kept (kept_of d) p.documents }) items none)

pub returns : goal.returns
returns g c =
    let items = c.args.proxies.now.items in
    let d = shown_document (c.args.place.now, c.args.kept.now) in
    let i = c.in-Some.index in
    let old = c.index_mut.result.now in
    let there : position (is_proxy d.repo) items ≡ Some i = rw (c.as_str.ensures.value, c.deref.ensures.value) at (sym c.in-Some.ensures) in
    let made : c.restore_document.new.self ≡ record old { documents = with_kept (kept_of d) old.documents } =
    rw (c.as_str-2.ensures.value, c.in_ok-doc.ensures) at c.in_ok-restore_document.ensures.ok in
    ap (set items i) (made ∙ ap (λ (p : plain.Proxy). record p { documents = with_kept (kept_of d) p.documents }) c.index_mut.ensures.value)
    ∙ changed-at (is_proxy d.repo) (λ (p : plain.Proxy). record p { documents = with_kept (kept_of d) p.documents }) items i old there
