use Rattle.std.proofs.Common.{◌≡◌, Some, true, sym, ◌∙◌, subst, IsTrue}
use Rattle.mvn_metadata.specs.Document.{Document, settled}
use Rattle.mvn_metadata.specs.Form.{is_document}
use Rattle.row_tables.specs.Items.{is_kept_in}
use Rattle.proxy_rules.proofs.Forms.{landed-form}
use Rattle.proxy_rules.proofs.LandLemmas.{if-ok}
use Rattle.proxy_rules.proofs.settling.settled.Goals as goal

pub returns-clause-form : goal.returns-clause-form
returns-clause-form c =
    let is : c.in_ok-doc.doc ≡ settled c.args.doc c.args.dir.now = c.in_ok-doc.ensures in
    if-ok c.new.result
    (λ kept made. subst (λ (d : Document). IsTrue (is_kept_in (Some c.args.dir.now) d)) (sym (made ∙ is))
    (landed-form c.settled_documents.ensures.fits c.settled_documents.ensures.once c.args.doc c.args.dir.now c.directory_is_ruled.ensures (subst (λ (d : Document). is_document d ≡ true) is c.listing-listing.ensures.form) c.requires.short)) c.new.ensures.doc
