use Rattle.std.proofs.Common.{refl, sym, ap, length, ◌∙◌}
use Rattle.std.specs.Prelude.{codes}
use Rattle.mvn_metadata.specs.Written.{moment_text, updated_line}
use Rattle.doc_lengths.specs.Counts.{counted}
use Rattle.doc_lengths.proofs.LengthLemmas.{length-moment}
use Rattle.doc_lengths.proofs.lengths.updated_line.Goals as goal

pub returns-in-Some : goal.returns-in-Some
returns-in-Some c =
    c.element.ensures (codes "    ") (codes "lastUpdated") (moment_text c.in-Some.field-0) refl refl (ap (λ n. counted n) (length-moment c.in-Some.field-0))
    ∙ ap (λ u. counted (length (updated_line u))) (sym c.in-Some.is)
