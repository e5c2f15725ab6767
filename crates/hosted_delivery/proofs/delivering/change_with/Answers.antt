use Rattle.std.proofs.Common.{sym, subst, ◌∙◌}
use Rattle.std.specs.Prelude.{IsTrue}
use Rattle.row_tables.specs.Items.{IsChange, are_of}
use Rattle.row_tables.specs.declared.version.Version.TheVariants.{Second}
use Rattle.ordered_rows.proofs.ChangeLemmas.{change-with, whole-with}
use Rattle.hosted_delivery.proofs.delivering.change_with.Goals as goal

pub of-requires : goal.of-requires
of-requires c = subst IsChange (sym c.in_ok-push.ensures.items) (change-with c.args.items.items c.args.also c.requires.items c.requires.few c.requires.also c.requires.short)

pub returns-clause-whole : goal.returns-clause-whole
returns-clause-whole c =
    subst (λ items. IsTrue (are_of Second items)) (sym (c.of.ensures ∙ c.in_ok-push.ensures.items)) (whole-with c.args.items.items c.args.also c.requires.items c.requires.whole)
