use Rattle.mvn_metadata.specs.Document.{Document, with_version}
use Rattle.mvn_metadata.proofs.FormLemmas.{is_document-same, is_listing-with_version, listing_of}
use Rattle.mvn_metadata.proofs.doc.Doc.with_version.Goals as goal

pub invariant_of-result : goal.invariant_of-result
invariant_of-result c =
    let d : Document = record { group = c.self.inside.group; artifact = c.self.inside.artifact; listing = c.self.inside.listing } in
    is_document-same d c.in_ok-listing.listing (with_version d.listing c.args.version) c.in_ok-listing.ensures
    (is_listing-with_version d.listing c.args.version c.requires (listing_of d c.self.invariant)) c.self.invariant
