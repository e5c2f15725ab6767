use Rattle.std.proofs.Common.{None, Some, cond, sym, ap, ◌∙◌}
use Rattle.mvn_coords.proofs.Cuts.{cut_last_is}
use Rattle.group_view.specs.Shelved.{shelved_at}
use Rattle.repo_parts.proofs.ShelfLemmas.{none-above, right-above}
use Rattle.repo_parts.proofs.shelves.forget_document.Goals as goal

pub returns-in-Some : goal.returns-in-Some
returns-in-Some c = λ text.
    let path = c.args.path.now in
    let first = cut_last_is path (Some (c.in-Some.directory, c.in-Some.field-0-1)) c.in-Some.ensures.cases in
    c.forget.ensures text ∙ sym (ap (λ b. cond b None (shelved_at text c.args.shelf.now)) (right-above path c.in-Some.directory.now c.in-Some.field-0-1.now text first.0))

pub returns-in_default : goal.returns-in_default
returns-in_default c = λ text.
    let path = c.args.path.now in
    sym (ap (λ b. cond b None (shelved_at text c.args.shelf.now)) (none-above path text (cut_last_is path None c.in_default.ensures.cases)))
