use Rattle.mvn_metadata.specs.Document.{Document, with_update}
use Rattle.mvn_metadata.proofs.FormLemmas.{is_document-same, is_listing-with_update, listing_of}
use Rattle.mvn_metadata.proofs.doc.Doc.with_update.Goals as goal

pub invariant_of-result : goal.invariant_of-result
invariant_of-result c =
    let d : Document = record { group = c.self.inside.group; artifact = c.self.inside.artifact; listing = c.self.inside.listing } in
    is_document-same d c.with_update-listing.result (with_update d.listing c.args.moment) c.with_update-listing.ensures
    (is_listing-with_update d.listing c.args.moment c.stamp_is_civil.ensures (listing_of d c.self.invariant)) c.self.invariant
