use Rattle.mvn_metadata.specs.Document.{Document, with_build}
use Rattle.mvn_metadata.proofs.FormLemmas.{is_document-same, is_listing-with_build, listing_of}
use Rattle.mvn_metadata.proofs.doc.Doc.with_build.Goals as goal

pub invariant_of-result : goal.invariant_of-result
invariant_of-result c =
    let d : Document = record { group = c.self.inside.group; artifact = c.self.inside.artifact; listing = c.self.inside.listing } in
    is_document-same d c.in_ok-listing.listing (with_build d.listing (c.args.pair, c.args.snapshot)) c.in_ok-listing.ensures
    (is_listing-with_build d.listing (c.args.pair, c.args.snapshot) c.requires (listing_of d c.self.invariant)) c.self.invariant
