use Rattle.std.proofs.Common.{sym, ap, ◌∙◌}
use Rattle.std.specs.Prelude.{codes}
use Rattle.mvn_metadata.specs.Written.{element, listing_lines}
use Rattle.mvn_doc.proofs.TextLemmas.{then, same}
use Rattle.mvn_doc.proofs.writing.listing.Goals as goal

pub returns-in-Snapshot : goal.returns-in-Snapshot
returns-in-Snapshot c =
    let based = same (ap (λ t. element (codes "  ") (codes "version") t) (c.as_bytes.ensures.value ∙ c.as_str.ensures)) c.element.ensures in
    same (ap (λ l. listing_lines l) (sym c.in-Snapshot.is)) (then based c.snapshot.ensures)

pub returns-in-Artifact : goal.returns-in-Artifact
returns-in-Artifact c = same (ap (λ l. listing_lines l) (sym c.in-Artifact.is)) c.artifact.ensures
