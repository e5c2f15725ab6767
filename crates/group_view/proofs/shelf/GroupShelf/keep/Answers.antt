use Rattle.std.proofs.Common.{◌≡◌, Some, cond, string_bytes, bytes_eq, ap, ◌∙◌}
use Rattle.mvn_coords.specs.Layout.{text_of_directory}
use Rattle.group_view.specs.Shelved.{shelved_at}
use Rattle.group_view.proofs.Texts.{changed}
use Rattle.group_view.proofs.shelf.GroupShelf.keep.Goals as goal

pub returns-clause-ok : goal.returns-clause-ok
returns-clause-ok c = λ text.
    let key = c.in_ok-path.path in
    let at : string_bytes key ≡ text_of_directory c.args.dir.now = c.in_ok-path.ensures.ok ∙ c.path.ensures.text in
    changed (string_bytes key) c.args.self.now.map c.insert.new.self (Some c.args.written) c.in_ok-insert.ensures.updates text
    ∙ ap (λ t. cond (bytes_eq text t) (Some c.args.written.doc) (shelved_at text c.args.self.now)) at
