use Rattle.std.proofs.Common.{◌≡◌, ◌∙◌, ap}
use Rattle.mvn_metadata.specs.Document.{Document, nothing}
use Rattle.mvn_metadata.specs.Form.{is_document}
use Rattle.mvn_metadata.proofs.FormLemmas.{is_document-listing, is_listing-nothing, listing_of}
use Rattle.mvn_metadata.proofs.doc.Doc.blank.Goals as goal

pub invariant_of-result : goal.invariant_of-result
invariant_of-result c =
    let d : Document = record { group = c.self.inside.group; artifact = c.self.inside.artifact; listing = c.self.inside.listing } in
    let made : Document = record { group = c.in_ok-copied_bytes.field-0; artifact = c.in_ok-copied.field-0; listing = c.in_ok-nothing.field-0 } in
    let same : made ≡ record d { listing = nothing d.listing } =
    λ i. record { group = c.in_ok-copied_bytes.ensures i; artifact = c.in_ok-copied.ensures i; listing = c.in_ok-nothing.ensures i } in
    ap is_document same
    ∙ is_document-listing d (nothing d.listing) (is_listing-nothing d.listing (listing_of d c.self.invariant)) c.self.invariant
