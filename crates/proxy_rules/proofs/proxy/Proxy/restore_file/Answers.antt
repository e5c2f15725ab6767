use Rattle.std.proofs.Common.{sym, subst}
use Rattle.repo_model.specs.Data as plain
use Rattle.repo_model.specs.Effect.{new_row}
use Rattle.repo_model.specs.Shown.{shown_parcel}
use Rattle.ordered_rows.specs.Rows.{AreFiles, IsFileRow}
use Rattle.ordered_rows.proofs.EachRow.{each-with}
use Rattle.proxy_entries.proofs.Results.{from-either}
use Rattle.proxy_rules.proofs.proxy.Proxy.restore_file.Goals as goal

pub invariant_of-self : goal.invariant_of-self
invariant_of-self g c =
    let old = c.self.inside.files in
    let new : plain.Row = new_row c.args.path.now (shown_parcel c.args.parcel) c.args.accepted in
    record {
      named = c.self.invariant.named;
      seconds = c.self.invariant.seconds;
      files = from-either c.add.result c.add.ensures.ok c.add.ensures.err
          (λ made. subst AreFiles (sym made) (each-with IsFileRow new old c.requires.path c.self.invariant.files))
          (λ same. subst AreFiles (sym same) c.self.invariant.files);
      few = c.self.invariant.few;
      timely = c.self.invariant.timely;
    }
