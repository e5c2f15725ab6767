use Rattle.std.proofs.Common.{sym, subst}
use Rattle.repo_model.specs.Data as plain
use Rattle.repo_model.specs.Effect.{new_row}
use Rattle.repo_model.specs.Shown.{shown_parcel, shown_print}
use Rattle.row_tables.specs.Leaving.{MayTake}
use Rattle.hosted_repo.specs.Puts.{puts_row}
use Rattle.hosted_repo.specs.Releases.{AllFadeRightly}
use Rattle.repo_model.specs.Paths.{FadesRightly}
use Rattle.ordered_rows.specs.Rows.{AreFiles, IsFileRow}
use Rattle.hosted_repo.proofs.FormLemmas.{from-both, puts-change}
use Rattle.hosted_repo.proofs.ReleaseLemmas.{new-rightly}
use Rattle.ordered_rows.proofs.EachRow.{each-with}
use Rattle.hosted_repo.proofs.hosted.Hosted.create.Goals as goal

pub create-requires-clause-change : goal.create-requires-clause-change
create-requires-clause-change g c =
    puts-change c.self.inside.rule.id c.self.invariant.named c.args.path.now c.args.parcel.blob (shown_print c.args.parcel) c.args.now c.requires.form.file c.requires.form.number c.requires.form.length
    (record { sha1 = c.sizes.ensures.sha1; md5 = c.sizes.ensures.md5; sha256 = c.sizes.ensures.sha256; sha512 = c.sizes.ensures.sha512 }) c.requires.form.moment

pub create-requires-clause-records : goal.create-requires-clause-records
create-requires-clause-records g c =
    let records = c.args.records.now in
    subst (λ (h : plain.Hosted). MayTake (puts_row h.rule.id c.args.path.now (shown_parcel c.args.parcel) c.args.now) (g.K.Records.shows records))
    (sym c.self.view_is) c.requires.records

pub invariant_of-self : goal.invariant_of-self
invariant_of-self g c =
    let old = c.self.inside.rows in
    let new : plain.Row = new_row c.args.path.now (shown_parcel c.args.parcel) c.args.now in
    record {
      named = c.self.invariant.named;
      files = from-both c.create.result c.create.ensures.ok c.create.ensures.err
          (λ made. subst AreFiles (sym made) (each-with IsFileRow new old c.requires.form.file c.self.invariant.files))
          (λ same. subst AreFiles (sym same) c.self.invariant.files);
      fading = from-both c.create.result c.create.ensures.ok c.create.ensures.err
          (λ made. subst AllFadeRightly (sym made) (each-with FadesRightly new old (new-rightly new.path new.blob new.accepted) c.self.invariant.fading))
          (λ same. subst AllFadeRightly (sym same) c.self.invariant.fading);
      kept = c.create.ensures.docs;
    }
