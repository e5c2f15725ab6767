use Rattle.std.proofs.Common.{◌≡◌, ap, ◌∙◌, Some, true, sym}
use Rattle.mvn_coords.specs.Layout.{Directory}
use Rattle.mvn_metadata.specs.Document.{Document, dotted, of_kind, settled}
use Rattle.mvn_metadata.specs.Form.{is_document, is_listing}
use Rattle.mvn_metadata.proofs.FormLemmas.{is_document-settled}
use Rattle.mvn_metadata.proofs.settling.settle.Goals as goal

pub new-requires-2 : goal.new-requires-2
new-requires-2 c =
    let d : Document = c.args.doc in
    let directory : Directory = c.args.dir.now in
    let made : Document = record { group = c.in_ok-group.group; artifact = Some c.in_ok-artifact.artifact; listing = c.in_ok-listing.listing } in
    let group : c.in_ok-group.group ≡ dotted directory.group = c.in_ok-group.ensures ∙ ap dotted c.group.ensures in
    let artifact : c.in_ok-artifact.artifact ≡ directory.artifact = c.in_ok-artifact.ensures.ok ∙ c.artifact.ensures in
    let listing : c.in_ok-listing.listing ≡ of_kind directory.version d.listing =
    c.in_ok-listing.ensures ∙ (λ i. of_kind (c.version.ensures i) (c.into_listing.ensures.listing i)) in
    let same : made ≡ settled d directory = λ i. record { group = group i; artifact = Some (artifact i); listing = listing i } in
    let form : is_listing d.listing ≡ true = ap is_listing (sym c.into_listing.ensures.listing) ∙ c.into_listing.ensures.form in
    ap is_document same ∙ is_document-settled d directory c.directory_is_ruled.ensures form
