use Rattle.std.proofs.Common.{◌≡◌, ◌∙◌, ap}
use Rattle.mvn_metadata.specs.Document.{Document}
use Rattle.mvn_metadata.specs.Form.{is_document}
use Rattle.mvn_metadata.proofs.FormLemmas.{listing_of}
use Rattle.mvn_metadata.proofs.doc.Doc.copied.Goals as goal

pub copied_listing-requires : goal.copied_listing-requires
copied_listing-requires c =
    listing_of (record { group = c.self.inside.group; artifact = c.self.inside.artifact; listing = c.self.inside.listing }) c.self.invariant

pub invariant_of-result : goal.invariant_of-result
invariant_of-result c =
    let d : Document = record { group = c.self.inside.group; artifact = c.self.inside.artifact; listing = c.self.inside.listing } in
    let made : Document = record { group = c.in_ok-copied_bytes.field-0; artifact = c.in_ok-copied.field-0; listing = c.in_ok-copied_listing.field-0 } in
    let same : made ≡ d =
    λ i. record { group = c.in_ok-copied_bytes.ensures i; artifact = c.in_ok-copied.ensures i; listing = c.in_ok-copied_listing.ensures i } in
    ap is_document same ∙ c.self.invariant
