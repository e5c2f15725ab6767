use Rattle.mvn_metadata.specs.Document.{Document}
use Rattle.mvn_metadata.proofs.FormLemmas.{is_document-listing, listing_of}
use Rattle.mvn_metadata.proofs.UndoLemmas.{is_listing-added}
use Rattle.mvn_metadata.proofs.doc.Doc.add_version.Goals as goal

pub invariant_of-self : goal.invariant_of-self
invariant_of-self c =
    let d : Document = record { group = c.self.inside.group; artifact = c.self.inside.artifact; listing = c.self.inside.listing } in
    let made = c.add_version in
    is_document-listing d made.new.listing
    (is_listing-added made.result d.listing made.new.listing c.args.version c.args.moment c.requires c.stamp_is_civil.ensures (listing_of d c.self.invariant) made.ensures.ok made.ensures.err)
    c.self.invariant
