use Rattle.std.proofs.Common.{◌<◌, List, ℕ, cond, length, None, sym, ap, ◌∙◌, subst}
use Rattle.std.specs.Prelude.{codes}
use Rattle.std.proofs.lemmas.Bool.{lt-ltb}
use Rattle.byte_cuts.specs.Cuts.{before}
use Rattle.byte_cuts.proofs.Strips.{before_strip}
use Rattle.directory_rows.proofs.documents.base_of.Goals as goal

pub returns-then-dir-gt9 : goal.returns-then-dir-gt9
returns-then-dir-gt9 c =
    let directory = c.args.c.now.directory in
    let long : 9 < length directory = subst (λ (d : List ℕ). 9 < length d) c.dir.ensures c.if-dir-gt9.true in
    before_strip (codes "-SNAPSHOT") c.dir-then-dir-gt9.result.now c.strip_suffix.result c.strip_suffix.ensures.cases
    ∙ ap (before (codes "-SNAPSHOT")) c.dir-then-dir-gt9.ensures
    ∙ sym (ap (λ b. cond b (before (codes "-SNAPSHOT") directory) None) (lt-ltb 9 (length directory) long))
