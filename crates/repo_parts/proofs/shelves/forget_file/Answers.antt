use Rattle.std.proofs.Common.{None, Some, cond, bytes_eq, sym, ap, ◌∙◌}
use Rattle.mvn_coords.proofs.Cuts.{cut_last_is}
use Rattle.group_view.specs.Shelved.{shelved_at}
use Rattle.repo_parts.proofs.ShelfLemmas.{forgot-two, no-file-above, one-above, two-above}
use Rattle.repo_parts.proofs.shelves.forget_file.Goals as goal

pub returns-in_default : goal.returns-in_default
returns-in_default c = λ text.
    let path = c.args.path.now in
    sym (ap (λ b. cond b None (shelved_at text c.args.shelf.now)) (no-file-above path text (cut_last_is path None c.in_default.ensures.cases)))

pub returns-in_default-rsplit_once : goal.returns-in_default-rsplit_once
returns-in_default-rsplit_once c = λ text.
    let path = c.args.path.now in
    let version = c.in-Some.version.now in
    let first = cut_last_is path (Some (c.in-Some.version, c.in-Some.field-0-1)) c.in-Some.ensures.cases in
    sym (ap (λ b. cond b None (shelved_at text c.args.shelf.now)) (one-above path version c.in-Some.field-0-1.now text first.0 (cut_last_is version None c.in_default-rsplit_once.ensures.cases)))

pub returns : goal.returns
returns c = λ text.
    let path = c.args.path.now in
    let version = c.in-Some.version.now in
    let artifact = c.in-Some-rsplit_once.artifact.now in
    let first = cut_last_is path (Some (c.in-Some.version, c.in-Some.field-0-1)) c.in-Some.ensures.cases in
    let second = cut_last_is version (Some (c.in-Some-rsplit_once.artifact, c.in-Some-rsplit_once.field-0-1)) c.in-Some-rsplit_once.ensures.cases in
    let old = shelved_at text c.args.shelf.now in
    c.forget-2.ensures text
    ∙ ap (λ doc. cond (bytes_eq text artifact) None doc) (c.forget.ensures text)
    ∙ forgot-two (bytes_eq text version) (bytes_eq text artifact) old
    ∙ sym (ap (λ b. cond b None old) (two-above path version artifact c.in-Some.field-0-1.now c.in-Some-rsplit_once.field-0-1.now text first.0 second.0))
