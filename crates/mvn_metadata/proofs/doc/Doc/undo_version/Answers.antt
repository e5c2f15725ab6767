use Rattle.mvn_metadata.specs.Document.{Document}
use Rattle.mvn_metadata.specs.Undo.{undone}
use Rattle.mvn_metadata.proofs.FormLemmas.{is_document-same, listing_of}
use Rattle.mvn_metadata.proofs.UndoLemmas.{is_listing-undone}
use Rattle.mvn_metadata.proofs.doc.Doc.undo_version.Goals as goal

pub invariant_of-self : goal.invariant_of-self
invariant_of-self c =
    let d : Document = record { group = c.self.inside.group; artifact = c.self.inside.artifact; listing = c.self.inside.listing } in
    is_document-same d c.undo_version.new.listing (undone d.listing c.args.undo.now) c.undo_version.ensures
    (is_listing-undone d.listing c.args.undo.now c.time_is_civil.ensures (listing_of d c.self.invariant)) c.self.invariant
