use Rattle.std.proofs.Common.{cond, [], ◌∷◌, ◌++◌, sym, ap, ◌∙◌}
use Rattle.std.proofs.lemmas.List.{append-nil}
use Rattle.mvn_digest.specs.Digests.{further_in}
use Rattle.repo_model.specs.declared.item.Item.TheVariants.{Digested}
use Rattle.blob_audit.specs.Files.{shown_file}
use Rattle.blob_audit.proofs.PrintLemmas.{lacks-so}
use Rattle.row_completion.proofs.GatherLemmas.{some-none}
use Rattle.row_completion.proofs.gathering.add_item.Goals as goal

pub returns-then-is_some : goal.returns-then-is_some
returns-then-is_some c =
    let print = c.args.file.now.row.now.print in
    let r = (shown_file c.args.file.now).row in
    let items = c.args.items.now.items in
    let whole = lacks-so print c.sizes.ensures ∙ some-none print.digests.further c.if-is_some.ensures in
    sym (append-nil items) ∙ ap (λ b. items ++ cond b (Digested r.repo r.row.path (further_in c.args.digests) ∷ []) []) (sym whole)
