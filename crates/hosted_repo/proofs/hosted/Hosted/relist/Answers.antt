use Rattle.std.proofs.Common.{sym, subst}
use Rattle.repo_model.specs.Data as plain
use Rattle.repo_model.specs.Effect.{list_again}
use Rattle.repo_model.specs.State.{is_row}
use Rattle.row_tables.specs.Leaving.{MayTake}
use Rattle.hosted_repo.specs.Puts.{lists_row}
use Rattle.hosted_repo.specs.Releases.{AllFadeRightly, FadesAt}
use Rattle.ordered_rows.specs.Rows.{AreFiles, IsFileRow}
use Rattle.hosted_repo.proofs.FormLemmas.{from-both, relists-change}
use Rattle.hosted_repo.proofs.ReleaseLemmas.{rightly-again}
use Rattle.ordered_rows.proofs.EachRow.{each-changed}
use Rattle.hosted_repo.proofs.hosted.Hosted.relist.Goals as goal

pub relist-requires-clause-change : goal.relist-requires-clause-change
relist-requires-clause-change g c = relists-change c.self.inside.rule.id c.self.invariant.named c.args.path.now c.args.now c.requires.form.file c.requires.form.moment

pub relist-requires-clause-records : goal.relist-requires-clause-records
relist-requires-clause-records g c =
    let records = c.args.records.now in
    subst (λ (h : plain.Hosted). MayTake (lists_row h.rule.id c.args.path.now c.args.now) (g.K.Records.shows records))
    (sym c.self.view_is) c.requires.records

pub relist-requires-clause-faded : goal.relist-requires-clause-faded
relist-requires-clause-faded g c = subst (λ (h : plain.Hosted). FadesAt c.args.path.now h.rows) (sym c.self.view_is) c.requires.faded

pub invariant_of-self : goal.invariant_of-self
invariant_of-self g c =
    let old = c.self.inside.rows in
    record {
      named = c.self.invariant.named;
      files = from-both c.relist.result c.relist.ensures.ok c.relist.ensures.err
          (λ made. subst AreFiles (sym made) (each-changed IsFileRow (is_row c.args.path.now) (list_again c.args.now) (λ r is h. h) old c.self.invariant.files)) (λ same. subst AreFiles (sym same) c.self.invariant.files);
      fading = from-both c.relist.result c.relist.ensures.ok c.relist.ensures.err
          (λ made. subst AllFadeRightly (sym made) (rightly-again c.args.path.now c.args.now old c.self.invariant.fading)) (λ same. subst AllFadeRightly (sym same) c.self.invariant.fading);
      kept = c.relist.ensures.docs;
    }
