use Rattle.std.proofs.Common.{[], refl, sym, ◌∙◌, ap, subst}
use Rattle.blob_audit.specs.Files.{shown_file}
use Rattle.blob_audit.specs.Damages.{IsFound, AreDamaged, none}
use Rattle.blob_audit.specs.Found.{found_in, IsJudged}
use Rattle.repo_model.specs.Prints.{print_in}
use Rattle.blob_audit.proofs.DamageLemmas.{next-whole, next-damaged}
use Rattle.blob_audit.proofs.damages.damages.Goals.{in-Whole, in-Other+in_ok-push_damaged-in-Other}
use Rattle.blob_audit.proofs.damages.damages.Goals as goal

pub loop-file-init : goal.loop-file-init
loop-file-init g c = record { kept = refl; count = refl; damaged = subst (AreDamaged (g.B.Blobs.shelf c.args.blobs.now) []) (sym c.new-damaged.ensures.items) none }

pub loop-file-preserved : goal.loop-file-preserved
loop-file-preserved g c = record {
  kept = c.look_at.ensures.kept ∙ c.loop-file.invariant.kept;
  count = c.in_ok-found.ensures.cause ∙ c.loop-file.invariant.count;
  damaged = elim c.match-branch-3.branch [
    | (in-Whole w) ↦
        next-whole (λ f. (shown_file f).row) c.args.files.now c.loop-file.file-index c.file-item.result c.loop-file-test.true c.file-item.is
        c.loop-file.invariant.kept c.loop-file.invariant.damaged _
        (subst (λ f. IsFound (g.B.Blobs.shelf c.loop-file.blobs) c.file-item.result.row.now.blob (found_in f)) w.in-Whole.is c.in_ok-found.ensures.found)
        (subst (IsJudged (print_in c.file-item.result.row.now.print)) w.in-Whole.is c.in_ok-found.ensures.judged)
        (ap (λ v. v.items) w.damaged-is)
    | (in-Other+in_ok-push_damaged-in-Other w) ↦
        next-damaged (λ f. (shown_file f).row) c.args.files.now c.loop-file.file-index c.file-item.result c.loop-file-test.true c.file-item.is
        c.loop-file.invariant.kept c.loop-file.invariant.damaged w.in-Other.found
        (subst (λ f. IsFound (g.B.Blobs.shelf c.loop-file.blobs) c.file-item.result.row.now.blob (found_in f)) w.in-Other.is c.in_ok-found.ensures.found)
        (subst (IsJudged (print_in c.file-item.result.row.now.print)) w.in-Other.is c.in_ok-found.ensures.judged)
        (ap (λ v. v.items) w.damaged-is ∙ w.in_ok-push_damaged-in-Other.ensures)
  ];
}
