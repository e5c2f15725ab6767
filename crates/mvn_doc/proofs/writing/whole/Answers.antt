use Rattle.std.proofs.Common.{[], ◌∷◌, ap}
use Rattle.std.specs.Prelude.{codes}
use Rattle.mvn_metadata.specs.Written.{close_tag, element_if, listing_lines}
use Rattle.mvn_doc.proofs.TextLemmas.{line_end, then, same}
use Rattle.mvn_doc.proofs.writing.whole.Goals as goal

pub returns : goal.returns
returns c =
    let grouped = same (ap (λ v. element_if (codes "  ") (codes "groupId") v) c.group.ensures) c.bytes_if.ensures in
    let named = same (ap (λ v. element_if (codes "  ") (codes "artifactId") v) c.artifact.ensures) c.element_if.ensures in
    let listed = same (ap (λ l. listing_lines l) c.listing.ensures.listing) c.listing-2.ensures in
    line_end (close_tag (codes "metadata")) (10 ∷ []) (then (then (then c.word.ensures grouped) named) listed) c.word-2.ensures
