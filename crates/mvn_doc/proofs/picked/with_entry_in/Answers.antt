use Rattle.std.proofs.Common.{◌≡◌, Option, true, subst, sym, ◌∙◌}
use Rattle.mvn_metadata.specs.Form.{is_entry, is_fit}
use Rattle.mvn_metadata.specs.Merge.{Entry}
use Rattle.mvn_doc.proofs.PickedForm.{entry_in_fits}
use Rattle.mvn_doc.proofs.picked.with_entry_in.Goals as goal

pub with_build-requires : goal.with_build-requires
with_build-requires c =
    subst (λ (o : Option Entry). is_fit is_entry o ≡ true) (sym c.in_ok-pair.ensures ∙ c.in-Some.is) (entry_in_fits c.args.placed.now)
