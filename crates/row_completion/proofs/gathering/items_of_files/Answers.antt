use Rattle.std.proofs.Common.{[], ◌∷◌, Some, refl, sym, ◌∙◌, subst}
use Rattle.blob_audit.specs.Damages.{AreDamaged, none}
use Rattle.blob_audit.specs.Files.{shown_file}
use Rattle.blob_audit.specs.declared.damages.Damaged.{Damaged}
use Rattle.blob_audit.specs.declared.order.RecordedFile.{RecordedFile}
use Rattle.blob_audit.proofs.DamageLemmas.{first-damaged, next-whole}
use Rattle.outside.specs.Blobs.{Shelf}
use Rattle.row_completion.specs.Gathering.{Adds, AreItemsOf}
use Rattle.row_completion.proofs.GatherLemmas.{items-more}
use Rattle.row_completion.proofs.Handing.{damage-on, damage-then}
use Rattle.row_completion.proofs.gathering.items_of_files.Goals as goal

pub loop-file-init : goal.loop-file-init
loop-file-init g c =
    let shelf = g.B.Blobs.shelf c.args.blobs.now in
    record { kept = refl; count = refl; sound = none; items = subst (AreItemsOf shelf []) (sym c.new-items.ensures.items) refl }

pub returns-in_err-add_found-clause-damaged : goal.returns-in_err-add_found-clause-damaged
returns-in_err-add_found-clause-damaged g c =
    let shelf = g.B.Blobs.shelf c.args.blobs.now in
    let now = g.B.Blobs.shelf c.loop-file.blobs in
    let file = c.file-item.result in
    let here : Damaged → Type 0 = λ d. AreDamaged now ((shown_file file).row ∷ []) (d ∷ []) in
    damage-then c.from_residual-in_err-add_found.result
    (λ d is.
    first-damaged (λ (f : RecordedFile). (shown_file f).row) c.args.files.now c.loop-file.file-index file c.loop-file-test.true c.file-item.is shelf d c.loop-file.invariant.sound
    (subst (λ (s : Shelf). AreDamaged s ((shown_file file).row ∷ []) (d ∷ [])) c.loop-file.invariant.kept is))
    (damage-on (Unit {0}) c.from_residual-in_err-add_found.result c.in_err-add_found.field-0.0 here c.from_residual-in_err-add_found.ensures.1 c.in_err-add_found.ensures.damaged)

pub loop-file-preserved : goal.loop-file-preserved
loop-file-preserved g c =
    let shelf = g.B.Blobs.shelf c.args.blobs.now in
    let files = c.args.files.now in
    let i = c.loop-file.file-index in
    let file = c.file-item.result in
    let found : Adds shelf (shown_file file) c.loop-file.items.items c.add_found.new.items.items
    = subst (λ (s : Shelf). Adds s (shown_file file) c.loop-file.items.items c.add_found.new.items.items) c.loop-file.invariant.kept c.in_ok-add_found.ensures.found in
    record {
      kept = c.add_found.ensures.kept ∙ c.loop-file.invariant.kept;
      count = c.in_ok-add_found.ensures.cause ∙ c.loop-file.invariant.count;
      sound =
          next-whole (λ (f : RecordedFile). (shown_file f).row) files i file c.loop-file-test.true c.file-item.is {shelf = shelf} {now = shelf} refl c.loop-file.invariant.sound (Some found.1.0) found.1.1 found.1.2 refl;
      items = items-more shelf files i file c.loop-file-test.true c.file-item.is c.loop-file.items.items c.add_found.new.items.items c.loop-file.invariant.items found;
    }
