use Rattle.std.proofs.Common.{[], ◌∷◌, sym, subst}
use Rattle.mvn_metadata.specs.Document.{Document}
use Rattle.repo_model.specs.declared.item.Item.TheVariants.{CachedDoc}
use Rattle.row_tables.specs.Items.{IsChange}
use Rattle.proxy_rules.proofs.changes.document_change.Goals as goal

pub change_of-requires : goal.change_of-requires
change_of-requires c =
    subst (λ id. IsChange (CachedDoc id c.in_ok-path.path c.args.checked c.in_ok-document.document ∷ [])) (sym c.in_ok-repo.ensures.ok)
    (subst (λ p. IsChange (CachedDoc c.args.proxy.now p c.args.checked c.in_ok-document.document ∷ [])) (sym c.in_ok-path.ensures.ok)
    (subst (λ (d : Document). IsChange (CachedDoc c.args.proxy.now c.args.path.now c.args.checked d ∷ [])) (sym c.in_ok-document.ensures) c.requires))
