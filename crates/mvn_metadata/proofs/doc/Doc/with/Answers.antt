use Rattle.std.proofs.Common.{ap, ◌∙◌}
use Rattle.mvn_metadata.specs.Document.{Document, joined}
use Rattle.mvn_metadata.specs.Form.{is_document}
use Rattle.mvn_metadata.specs.declared.listing.Listing.{Listing}
use Rattle.mvn_metadata.proofs.FormLemmas.{is_document-listing, is_listing-joined, listing_of}
use Rattle.mvn_metadata.proofs.doc.Doc.with.Goals as goal

pub invariant_of-result : goal.invariant_of-result
invariant_of-result c =
    let d : Document = record { group = c.self.inside.group; artifact = c.self.inside.artifact; listing = c.self.inside.listing } in
    let e : Document = record { group = c.other.inside.group; artifact = c.other.inside.artifact; listing = c.other.inside.listing } in
    ap (λ (l : Listing). is_document (record d { listing = l })) (c.in_ok-listing.ensures)
    ∙ is_document-listing d (joined d.listing e.listing)
    (is_listing-joined d.listing e.listing (listing_of d c.self.invariant) (listing_of e c.other.invariant)) c.self.invariant
