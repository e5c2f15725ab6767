use Rattle.std.proofs.Common.{refl, sym, ◌∙◌, subst}
use Rattle.repo_model.specs.Shown.{shown_parcel}
use Rattle.ordered_rows.proofs.PutBack.{put-back}
use Rattle.kept_docs.specs.Kept.{AreOf}
use Rattle.kept_docs.proofs.KeptLemmas.{row_of, same_of, undone_of}
use Rattle.hosted_repo.proofs.storing.create.Goals as goal

pub returns-in_err-described-clause-docs : goal.returns-in_err-described-clause-docs
returns-in_err-described-clause-docs g c = same_of c.args.docs.now c.add_row.new.docs c.args.rows.now c.in_err-described.ensures.err c.requires.docs

pub returns-in_default-clause-docs : goal.returns-in_default-clause-docs
returns-in_default-clause-docs g c =
    subst (AreOf c.undo_row.new.docs) (sym c.in_default.ensures.err)
    (undone_of c.args.docs.now c.add_row.new.docs c.undo_row.new.docs c.in_ok-described.described c.args.rows.now c.in_ok-described.ensures.undo c.undo_row.ensures c.requires.docs)

pub returns-in-Err-clause-err : goal.returns-in-Err-clause-err
returns-in-Err-clause-err g c = c.remove.ensures ∙ put-back c.args.path.now _ c.args.rows.now c.add.new.self c.in-Ok.ensures.ok refl c.requires.free

pub returns-in-Err-clause-docs : goal.returns-in-Err-clause-docs
returns-in-Err-clause-docs g c =
    let back = c.remove.ensures ∙ put-back c.args.path.now _ c.args.rows.now c.add.new.self c.in-Ok.ensures.ok refl c.requires.free in
    subst (AreOf c.undo_row-in-Err.new.docs) (sym back)
    (undone_of c.args.docs.now c.add_row.new.docs c.undo_row-in-Err.new.docs c.in_ok-described.described c.args.rows.now c.in_ok-described.ensures.undo c.undo_row-in-Err.ensures c.requires.docs)

pub returns-clause-docs : goal.returns-clause-docs
returns-clause-docs g c =
    row_of c.args.docs.now c.add_row.new.docs c.args.path.now (shown_parcel c.in_ok-share.field-0) c.args.accepted c.args.rows.now c.add.new.self c.requires.docs c.in_ok-described.ensures.more c.in-Ok.ensures.ok
