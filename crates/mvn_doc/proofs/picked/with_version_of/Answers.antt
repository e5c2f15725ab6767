use Rattle.std.proofs.Common.{◌≡◌, ap, fold, subst, sym, ◌∙◌, IfOk}
use Rattle.mvn_metadata.specs.declared.listing.Listing.{Listing}
use Rattle.mvn_metadata.specs.Document.{with_version}
use Rattle.mvn_coords.specs.Segment.{is_version_directory}
use Rattle.mvn_doc.proofs.PickedForm.{fitting_none, fitting_some}
use Rattle.mvn_doc.proofs.PickedSteps.{misfit, no_version, one_version}
use Rattle.mvn_doc.proofs.picked.with_version_of.Goals as goal

pub with_version-requires : goal.with_version-requires
with_version-requires c =
    let found = fitting_some is_version_directory c.text.result.now c.in-Some.version.now c.in-Some.ensures in
    ap is_version_directory (c.in_ok-parse-in-Some.ensures ∙ found.1) ∙ found.0

pub returns-in_ok-parse-in-Some : goal.returns-in_ok-parse-in-Some
returns-in_ok-parse-in-Some c =
    let found = fitting_some is_version_directory c.text.result.now c.in-Some.version.now c.in-Some.ensures in
    let text = c.text.ensures in
    let made = one_version c.args.doc.listing c.args.element.now c.in_ok-parse-in-Some.field-0 (sym c.if-not-is_at.ensures)
    (ap is_version_directory (sym text) ∙ found.0) (c.in_ok-parse-in-Some.ensures ∙ found.1 ∙ text) in
    subst (λ (l : Listing). IfOk c.with_version-in-Some.result (λ d. d ≡ record c.args.doc { listing = l })) made c.with_version-in-Some.ensures

pub returns-then-not-is_at : goal.returns-then-not-is_at
returns-then-not-is_at c =
    let none = no_version c.args.element.now (sym c.is_at.ensures ∙ c.if-not-is_at.true) in
    ap (λ vs. record c.args.doc { listing = fold with_version c.args.doc.listing vs }) (sym none)

pub returns-in-None : goal.returns-in-None
returns-in-None c =
    let none = misfit c.args.element.now (sym c.if-not-is_at.ensures) (ap is_version_directory (sym c.text.ensures) ∙ fitting_none is_version_directory c.text.result.now c.in-None.ensures) in
    ap (λ vs. record c.args.doc { listing = fold with_version c.args.doc.listing vs }) (sym none)
